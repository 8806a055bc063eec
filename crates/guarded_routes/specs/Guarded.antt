-- A layout with all five ACS controls set on each downstream port (PCIe 4.0, 6.12.1.1), and the functions in it.
use Rattle.std.specs.Prelude.{◌≡◌, ℕ, ◌==◌, Bool, true, false, ◌||◌, Option, Some, None}
use Rattle.std.specs.List.{list_all}
use Rattle.fab_types.specs.Id.{bus_of, id_of}
use Rattle.platform.specs.declared.parts.DownstreamPort.{DownstreamPort}
use Rattle.layout.specs.Laws.{IsPlatform}
use Rattle.platform.specs.Owners.{domain_above, first_port, is_function}
use Rattle.platform.specs.Platform.{Platform}
use Rattle.platform.specs.Reach.{holds_bus_if_any}
use Rattle.platform.specs.Share.{is_guarded_port}
use Rattle.platform.specs.Tree.{port_leading_to}
use Rattle.bridge.specs.declared.target.Target.{Target}
use Rattle.bridge.specs.Routes.{holds}

-- what was read, and has all five controls on each port
pub record IsGuarded (platform : Platform) : Type 0 where
  pub laws : IsPlatform platform
  pub controls : list_all is_guarded_port platform.ports ≡ true

-- a function of a domain
pub record IsFunctionOf (platform : Platform) (domain function : ℕ) : Type 0 where
  pub listed : is_function platform.functions function ≡ true
  pub owner : domain_above platform.ports function ≡ Some domain

-- the upstream port of the top switch, 01:00.0
abbrev pub top_id : ℕ
top_id = id_of 1 0 0

-- does a function stand at the lower end of a link, or below it? Each stands below the top switch; otherwise the buses of
-- the port over the link say it.
abbrev pub is_below : Platform → ℕ → ℕ → Bool
is_below platform lower function = (lower == top_id) || holds_bus_if_any (port_leading_to platform.ports lower) (bus_of function)

abbrev pub holds_if_any : Option DownstreamPort → Option Target → Bool
holds_if_any None target = false
holds_if_any (Some port) target = holds port target

-- does the first port of a function have the bus of an ID below it?
abbrev pub has_id : Platform → ℕ → ℕ → Bool
has_id platform function id = holds_bus_if_any (first_port platform.ports function) (bus_of id)
