-- The places of a platform stay told apart with one line more.
use Rattle.std.proofs.Common.{◌≡◌, ℕ, ◌==◌, true, false, List, [], ◌∷◌, ◌++◌, length, Option, Some, None, refl, arith}
use Rattle.std.specs.Prelude.{not, is_some, is_none}
use Rattle.std.specs.List.{list_all}
use Rattle.fab_types.specs.Id.{bus_of}
use Rattle.platform.specs.declared.parts.Switch.{Switch}
use Rattle.platform.specs.declared.parts.DownstreamPort.{DownstreamPort}
use Rattle.platform.specs.declared.parts.EndpointFunction.{EndpointFunction}
use Rattle.layout_line.specs.declared.lines.SwitchText.{SwitchText}
use Rattle.platform.specs.Owners.{is_function}
use Rattle.platform.specs.Platform.{Platform}
use Rattle.platform.specs.Tree.{port_at, port_leading_to, switch_on, id_below, is_switch, is_taken}
use Rattle.layout.specs.Rules.{root_fault, switch_fault, switch_fault_below, function_fault, function_fault_below}
use Rattle.layout.specs.Additions.{root_line, switch_line}
use Rattle.layout.specs.Laws.{IsPlatform, is_nested}
use Rattle.layout.specs.Places.{IsWellPlaced, have_other_ids, are_other_functions, is_top_first}
use Rattle.layout.proofs.Nesting.{nested-some}
use Rattle.layout.proofs.Keeping.{no-switches}
use Rattle.layout.proofs.NoFault.{none-first}
use Rattle.platform.proofs.Bools.{or-first, or-second, all-found}
use Rattle.layout.proofs.Bools.{all-not, all-none, pair-more}

-- where nothing stood, no switch and no function has the ID
other-switches : (switches : List Switch) (functions : List EndpointFunction) (switch : Switch) → is_taken switches functions switch.id ≡ false → list_all (λ one. have_other_ids one switch) switches ≡ true
other-switches switches functions switch free = all-not (λ (one : Switch). one.id == switch.id) switches (or-first (is_switch switches switch.id) (is_function functions switch.id) free)

other-functions : (switches : List Switch) (functions : List EndpointFunction) (function : EndpointFunction) → is_taken switches functions function.id ≡ false → list_all (λ one. are_other_functions one function) functions ≡ true
other-functions switches functions function free = all-not (λ (one : EndpointFunction). one.id == function.id) functions (or-second (is_switch switches function.id) (is_function functions function.id) free)

-- the top switch
top-alone : (switches : List Switch) (switch : Switch) → length switches ≡ 0 → is_none switch.above ≡ true → is_top_first (switches ++ switch ∷ []) ≡ true
top-alone [] switch none top = top
top-alone (first ∷ rest) switch none top = absurd (omega arith)

pub places-root : (p : Platform) (id : ℕ) → IsWellPlaced p → None ≡ root_fault p id → IsWellPlaced (record p { switches = p.switches ++ root_line id ∷ [] })
places-root p id h none = record {
  apart = pair-more have_other_ids p.switches (root_line id) h.apart (all-none (λ one. have_other_ids one (root_line id)) p.switches (no-switches p id none));
  top = top-alone p.switches (root_line id) (no-switches p id none) refl;
  functions = h.functions;
}

-- a switch below a port, which stands on the bus of an earlier switch
top-stays : (switches : List Switch) (switch : Switch) (bus : ℕ) → is_some (switch_on switches bus) ≡ true → is_top_first switches ≡ true → is_top_first (switches ++ switch ∷ []) ≡ true
top-stays [] switch bus on h = absurd cc
top-stays (first ∷ rest) switch bus on h = h

free-below : (p : Platform) (switch : SwitchText) (above : Option DownstreamPort) → None ≡ switch_fault_below p switch.id above → is_taken p.switches p.functions switch.id ≡ false
free-below p switch None none = absurd cc
free-below p switch (Some port) none = or-second (not (switch.id == id_below port)) (is_taken p.switches p.functions switch.id) (none-first _ _ _ none)

top-below : (p : Platform) (switch : SwitchText) (above : Option DownstreamPort) → port_at p.ports switch.above ≡ above → list_all (is_nested p.switches p.ports) p.ports ≡ true → is_top_first p.switches ≡ true → None ≡ switch_fault_below p switch.id above
    → is_top_first (p.switches ++ switch_line switch ∷ []) ≡ true
top-below p switch None found nested top none = absurd cc
top-below p switch (Some port) found nested top none =
    let on_bus = nested-some p.ports (switch_on p.switches (bus_of port.id)) port (all-found (λ (other : DownstreamPort). other.id == switch.above) (is_nested p.switches p.ports) p.ports port found nested) in
    top-stays p.switches (switch_line switch) (bus_of port.id) on_bus top

pub places-switch : (p : Platform) (switch : SwitchText) → IsPlatform p → IsWellPlaced p → None ≡ switch_fault p switch → IsWellPlaced (record p { switches = p.switches ++ switch_line switch ∷ [] })
unfolding switch_fault
places-switch p switch laws h none = record {
  apart = pair-more have_other_ids p.switches (switch_line switch) h.apart (other-switches p.switches p.functions (switch_line switch) (free-below p switch (port_at p.ports switch.above) none));
  top = top-below p switch (port_at p.ports switch.above) refl laws.nested h.top none;
  functions = h.functions;
}

-- a function
free-for : (p : Platform) (function : EndpointFunction) (above : Option DownstreamPort) → None ≡ function_fault_below p function above → is_taken p.switches p.functions function.id ≡ false
free-for p function None none = absurd cc
free-for p function (Some port) none = none-first _ _ _ none

pub places-function : (p : Platform) (function : EndpointFunction) → IsWellPlaced p → None ≡ function_fault p function → IsWellPlaced (record p { functions = p.functions ++ function ∷ [] })
unfolding function_fault
places-function p function h none = record {
  apart = h.apart;
  top = h.top;
  functions = pair-more are_other_functions p.functions function h.functions (other-functions p.switches p.functions function (free-for p function (port_leading_to p.ports function.id) none));
}
