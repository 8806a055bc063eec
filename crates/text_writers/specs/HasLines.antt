-- What the lines of a layout have besides: a platform that keeps the laws of platforms and these rules can be written.
use Rattle.std.specs.Prelude.{◌≡◌, ℕ, ◌%◌, ◌^◌, ◌==◌, Bool, true, ◌&&◌, ◌||◌, not, nat_le, nat_lt, is_some, List, [], ◌∷◌, ◌++◌, Option, Some, None}
use Rattle.std.specs.List.{list_all}
use Rattle.fab_types.specs.Controls.{bits_of, controls_egress}
use Rattle.fab_types.specs.Id.{bus_of, function_of}
use Rattle.fab_types.specs.declared.controls.AcsControl.{AcsControl}
use Rattle.platform.specs.declared.parts.LayoutVersion.{LayoutVersion}
use Rattle.platform.specs.declared.parts.Switch.{Switch}
use Rattle.platform.specs.declared.parts.DownstreamPort.{DownstreamPort}
use Rattle.platform.specs.declared.parts.Mapping.{Mapping}
use Rattle.platform.specs.declared.parts.BudgetLine.{BudgetLine}
use Rattle.platform.specs.declared.parts.CreditLine.{CreditLine}
use Rattle.platform.specs.Owners.{owns_port}
use Rattle.platform.specs.Platform.{Platform}
use Rattle.platform.specs.Tree.{has_root, is_taken, switch_on}
use Rattle.layout.specs.Laws.{each_pair}
use Rattle.layout.specs.Rules.{is_first_version, last_controls}

-- the port stands on the internal bus of one of these switches
abbrev pub is_port_of : List Switch → DownstreamPort → Bool
is_port_of switches port = is_some (switch_on switches (bus_of port.id))

-- the port above a switch, and each port before that, stand on switches that come before the switch
abbrev pub AreInOrder : List Switch → List DownstreamPort → Type 0
AreInOrder switches ports =
    (earlier later : List Switch) (switch : Switch) (front rest : List DownstreamPort) (port : DownstreamPort)
    → switches ≡ earlier ++ switch ∷ later → ports ≡ front ++ port ∷ rest → switch.above ≡ Some port.id
    → list_all (is_port_of earlier) (front ++ port ∷ []) ≡ true

-- a vector, of 32 bits, is of version 2 and of a port that controls egress
abbrev pub has_vector_line : LayoutVersion → AcsControl → Option ℕ → Bool
has_vector_line version controls None = true
has_vector_line version controls (Some vector) = not (is_first_version version) && controls_egress controls && nat_lt vector (2 ^ 32)

-- function 0 of a device; whole MB; buses of 8 bits; controls that the version has
abbrev pub has_port_line : LayoutVersion → DownstreamPort → Bool
has_port_line version port =
    (function_of port.id == 0) && (port.base % 0x100000 == 0) && (port.limit % 0x100000 == 0xfffff)
    && nat_le port.subordinate 255 && nat_le (bits_of port.controls) (last_controls version)
    && has_vector_line version port.controls port.egress_vector

-- a page of 64 bits of addresses; reads or writes are allowed, or both
abbrev pub has_map_line : Mapping → Bool
has_map_line line = nat_lt line.page (2 ^ 52) && (line.rights.read || line.rights.write)

abbrev pub are_of_other_domains : BudgetLine → BudgetLine → Bool
are_of_other_domains one other = not (one.domain == other.domain)

abbrev pub are_of_other_links : CreditLine → CreditLine → Bool
are_of_other_links one other = not (one.id == other.id)

pub record HasLines (platform : Platform) : Type 0 where
  pub root : has_root platform.switches ≡ true  -- there is a top switch
  pub order : AreInOrder platform.switches platform.ports
  pub ports : list_all (has_port_line platform.version) platform.ports ≡ true
  pub maps : list_all has_map_line platform.maps ≡ true
  pub owners : list_all (λ line. owns_port platform.ports line.domain) platform.budgets ≡ true  -- budgets are of domains that own a port
  pub budgets : each_pair are_of_other_domains platform.budgets ≡ true
  pub links : list_all (λ line. is_taken platform.switches platform.functions line.id) platform.credits ≡ true  -- credits are of links
  pub credits : each_pair are_of_other_links platform.credits ≡ true
