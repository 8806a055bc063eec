-- What stands in a platform has its place among the nodes and the outputs.
use Rattle.std.proofs.Common.{◌≡◌, ℕ, suc, ◌+◌, ◌==◌, Bool, true, false, List, Option, Some, None, refl, sym, ap, ◌∙◌, arith, eq-eqb}
use Rattle.std.specs.Prelude.{◌||◌, Contains, option_and_then}
use Rattle.std.specs.List.{position}
use Rattle.std.specs.Option.{option_map_or}
use Rattle.fab_types.specs.Id.{bus_of}
use Rattle.platform.specs.declared.parts.DownstreamPort.{DownstreamPort}
use Rattle.layout.specs.Laws.{IsPlatform}
use Rattle.platform.specs.Owners.{is_function}
use Rattle.platform.specs.Platform.{Platform}
use Rattle.platform.specs.Tree.{internal_bus, is_on_bus, is_switch, is_taken, port_at}
use Rattle.topology.specs.Nodes.{downstream_end, end_of_port, ports_on}
use Rattle.topology.proofs.Buses.{port_stands}
use Rattle.topology.proofs.Members.{any_found, found, kept, some_passes}

neither : (switch function : Bool) → (switch || function) ≡ true → (switch ≡ true → ⊥) → (function ≡ true → ⊥) → ⊥
neither true function h s f = s refl
neither false function h s f = f h

-- an ID that is taken is that of a switch or a function
pub id_known : (platform : Platform) (id : ℕ) → is_taken platform.switches platform.functions id ≡ true → position (λ switch. switch.id == id) platform.switches ≡ None
    → position (λ function. function.id == id) platform.functions ≡ None → ⊥
id_known platform id taken no_switch no_function =
    neither (is_switch platform.switches id) (is_function platform.functions id) taken
    (λ s. any_found (λ switch. switch.id == id) platform.switches s no_switch)
    (λ f. any_found (λ function. function.id == id) platform.functions f no_function)

-- a port is one of those on its bus
pub place_known : (ports : List DownstreamPort) (port : DownstreamPort) → Contains ports port → position (λ other. other.id == port.id) (ports_on ports (bus_of port.id)) ≡ None → ⊥
place_known ports port within none =
    let listed = kept (is_on_bus (bus_of port.id)) ports port within (eq-eqb (bus_of port.id) (bus_of port.id) refl) in
    any_found (λ other. other.id == port.id) (ports_on ports (bus_of port.id)) (some_passes (λ other. other.id == port.id) (ports_on ports (bus_of port.id)) port listed (eq-eqb port.id port.id refl)) none

-- and that bus is the internal one of a switch
pub switch_known : (platform : Platform) (port : DownstreamPort) → IsPlatform platform → Contains platform.ports port → position (λ switch. internal_bus switch == bus_of port.id) platform.switches ≡ None → ⊥
switch_known platform port laws within none =
    let on = port_stands platform laws port within in
    any_found (λ switch. internal_bus switch == bus_of port.id) platform.switches (some_passes (λ switch. internal_bus switch == bus_of port.id) platform.switches on.0 on.1.listed (eq-eqb _ _ on.1.bus)) none

-- the port above a switch is one of the platform's
pub above_known : (ports : List DownstreamPort) (above : Option ℕ) (port : DownstreamPort) → option_and_then (λ id. port_at ports id) above ≡ Some port → Contains ports port
above_known ports None port e = absurd cc
above_known ports (Some id) port e = (found (λ p. p.id == id) ports port e).0

-- from both places comes the end
pub end_of_known : (platform : Platform) (port : DownstreamPort) (switch place : ℕ) → position (λ switch. internal_bus switch == bus_of port.id) platform.switches ≡ Some switch
    → position (λ other. other.id == port.id) (ports_on platform.ports (bus_of port.id)) ≡ Some place → record { node = 1 + switch; output = 1 + place } ≡ downstream_end platform port
end_of_known platform port switch place on at = sym (
    ap (end_of_port platform.ports port) on ∙ ap (λ (o : Option ℕ). record { node = 1 + switch; output = option_map_or suc o 0 }) at
    ∙ ap (λ (n : ℕ). record { node = 1 + switch; output = n }) (omega arith))
