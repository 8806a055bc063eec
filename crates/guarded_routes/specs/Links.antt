-- The links on the way from a function up to the host (PCIe 4.0, 1.3.3), each named by the ID at its lower end.
use Rattle.std.specs.Prelude.{◌≡◌, ℕ, ◌<◌, List, [], ◌∷◌, Option, Some, option_and_then, option_map}
use Rattle.fab_types.specs.Id.{bus_of}
use Rattle.platform.specs.declared.parts.DownstreamPort.{DownstreamPort}
use Rattle.platform.specs.Platform.{Platform}
use Rattle.platform.specs.Tree.{port_leading_to, switch_on}
use Rattle.guarded_routes.specs.Guarded.{top_id}

-- the link above the switch that a port belongs to
abbrev pub link_above_port : Platform → DownstreamPort → Option ℕ
link_above_port platform port = option_map (λ switch. switch.id) (switch_on platform.switches (bus_of port.id))

-- the link above the switch that has the port over a link. Over the link between the top switch and the host stands no
-- port of a switch, so it has none above it
abbrev pub link_above : Platform → ℕ → Option ℕ
link_above platform lower = option_and_then (link_above_port platform) (port_leading_to platform.ports lower)

-- from a link on, each followed by the one above it, up to the last
pub data IsPath (platform : Platform) (last : ℕ) : ℕ → List ℕ → Type 0 where
  AtLast : IsPath platform last last (last ∷ [])
  Above : (lower above : ℕ) (links : List ℕ) → link_above platform lower ≡ Some above → bus_of above < bus_of lower → IsPath platform last above links → IsPath platform last lower (lower ∷ links)

-- so up to that of the host
abbrev pub IsWay : Platform → ℕ → List ℕ → Type 0
IsWay platform lower links = IsPath platform top_id lower links
