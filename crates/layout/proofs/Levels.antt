-- The levels of switches stay with one line more.
use Rattle.std.proofs.Common.{◌≡◌, ℕ, ◌+◌, ◌==◌, true, false, List, ◌++◌, Option, Some, None, refl, ap}
use Rattle.std.specs.Prelude.{is_some, option_and_then}
use Rattle.std.specs.List.{list_all}
use Rattle.fab_types.specs.Id.{bus_of}
use Rattle.platform.specs.declared.parts.Switch.{Switch}
use Rattle.platform.specs.declared.parts.DownstreamPort.{DownstreamPort}
use Rattle.platform.specs.Tree.{port_at, port_above, switch_on, port_above_bus, is_third_level}
use Rattle.layout.specs.Laws.{is_nested, is_hung, is_level, is_level_below}
use Rattle.platform.proofs.Bools.{all-found}
use Rattle.layout.proofs.Bools.{find-stays}
use Rattle.layout.proofs.Nesting.{above-stays, nested-some}

above-on-stays : (ports more : List DownstreamPort) (on : Option Switch) → ((switch : Switch) → on ≡ Some switch → is_hung ports switch ≡ true)
    → option_and_then (λ (s : Switch). port_above (ports ++ more) s) on ≡ option_and_then (λ (s : Switch). port_above ports s) on
above-on-stays ports more None hung = refl
above-on-stays ports more (Some switch) hung = above-stays ports more switch.above switch (hung switch refl)

-- more ports change nothing above a bus
pub above-bus-stays : (switches : List Switch) (ports more : List DownstreamPort) (bus : ℕ) → list_all (is_hung ports) switches ≡ true → port_above_bus switches (ports ++ more) bus ≡ port_above_bus switches ports bus
unfolding port_above_bus
above-bus-stays switches ports more bus hung =
    above-on-stays ports more (switch_on switches bus) (λ switch e. all-found (λ (s : Switch). bus_of s.id + 1 == bus) (is_hung ports) switches switch e hung)

third-stays : (switches : List Switch) (ports more : List DownstreamPort) (above : Option DownstreamPort) → list_all (is_hung ports) switches ≡ true
    → is_some (option_and_then (λ (p : DownstreamPort). port_above_bus switches (ports ++ more) (bus_of p.id)) above) ≡ is_some (option_and_then (λ (p : DownstreamPort). port_above_bus switches ports (bus_of p.id)) above)
third-stays switches ports more None hung = refl
third-stays switches ports more (Some port) hung = ap is_some (above-bus-stays switches ports more (bus_of port.id) hung)

level-stays-below : (switches : List Switch) (ports more : List DownstreamPort) (above : Option DownstreamPort) → list_all (is_hung ports) switches ≡ true → is_level_below switches ports above ≡ true → is_level_below switches (ports ++ more) above ≡ true
unfolding is_third_level
level-stays-below switches ports more None hung h = refl
level-stays-below switches ports more (Some port) hung h =
    rw (above-bus-stays switches ports more (bus_of port.id) hung, third-stays switches ports more (port_above_bus switches ports (bus_of port.id)) hung) h

pub level-stays : (switches : List Switch) (ports more : List DownstreamPort) (switch : Switch) → list_all (is_hung ports) switches ≡ true → is_hung ports switch ≡ true → is_level switches ports switch ≡ true → is_level switches (ports ++ more) switch ≡ true
level-stays switches ports more switch all hung h =
    rw (above-stays ports more switch.above switch hung) (level-stays-below switches ports more (port_above ports switch) all h)

-- nor do more switches, above a bus on which a port stands
above-among : (switches more : List Switch) (ports : List DownstreamPort) (bus : ℕ) → is_some (switch_on switches bus) ≡ true → port_above_bus (switches ++ more) ports bus ≡ port_above_bus switches ports bus
unfolding port_above_bus
above-among switches more ports bus some =
    ap (λ (on : Option Switch). option_and_then (λ (s : Switch). port_above ports s) on) (find-stays (λ (s : Switch). bus_of s.id + 1 == bus) switches more some)

by-id : (switches : List Switch) (ports : List DownstreamPort) (above : Option ℕ) (port : DownstreamPort) → list_all (is_nested switches ports) ports ≡ true
    → option_and_then (λ (id : ℕ). port_at ports id) above ≡ Some port → is_nested switches ports port ≡ true
by-id switches ports None port nested e = absurd cc
by-id switches ports (Some id) port nested e = all-found (λ (p : DownstreamPort). p.id == id) (is_nested switches ports) ports port e nested

-- the port above a bus is a port
above-nested : (switches : List Switch) (ports : List DownstreamPort) (on : Option Switch) (port : DownstreamPort) → list_all (is_nested switches ports) ports ≡ true
    → option_and_then (λ (s : Switch). port_above ports s) on ≡ Some port → is_nested switches ports port ≡ true
above-nested switches ports None port nested e = absurd cc
above-nested switches ports (Some switch) port nested e = by-id switches ports switch.above port nested e

on-bus : (switches : List Switch) (ports : List DownstreamPort) (bus : ℕ) → list_all (is_nested switches ports) ports ≡ true → (port : DownstreamPort) → port_above_bus switches ports bus ≡ Some port → is_nested switches ports port ≡ true
unfolding port_above_bus
on-bus switches ports bus nested port e = above-nested switches ports (switch_on switches bus) port nested e

third-among : (switches more : List Switch) (ports : List DownstreamPort) (above : Option DownstreamPort) → ((port : DownstreamPort) → above ≡ Some port → is_nested switches ports port ≡ true)
    → is_some (option_and_then (λ (p : DownstreamPort). port_above_bus (switches ++ more) ports (bus_of p.id)) above) ≡ is_some (option_and_then (λ (p : DownstreamPort). port_above_bus switches ports (bus_of p.id)) above)
third-among switches more ports None nested = refl
third-among switches more ports (Some port) nested =
    ap is_some (above-among switches more ports (bus_of port.id) (nested-some ports (switch_on switches (bus_of port.id)) port (nested port refl)))

pub third-level-among : (switches more : List Switch) (ports : List DownstreamPort) (bus : ℕ) → list_all (is_nested switches ports) ports ≡ true → is_some (switch_on switches bus) ≡ true → is_third_level (switches ++ more) ports bus ≡ is_third_level switches ports bus
unfolding is_third_level
third-level-among switches more ports bus nested some =
    rw (above-among switches more ports bus some) (third-among switches more ports (port_above_bus switches ports bus) (on-bus switches ports bus nested))

level-among-below : (switches more : List Switch) (ports : List DownstreamPort) (above : Option DownstreamPort) → list_all (is_nested switches ports) ports ≡ true → ((port : DownstreamPort) → above ≡ Some port → is_nested switches ports port ≡ true) → is_level_below switches ports above ≡ true → is_level_below (switches ++ more) ports above ≡ true
level-among-below switches more ports None all nested h = refl
level-among-below switches more ports (Some port) all nested h =
    rw (third-level-among switches more ports (bus_of port.id) all (nested-some ports (switch_on switches (bus_of port.id)) port (nested port refl))) h

pub level-among : (switches more : List Switch) (ports : List DownstreamPort) (switch : Switch) → list_all (is_nested switches ports) ports ≡ true → is_level switches ports switch ≡ true → is_level (switches ++ more) ports switch ≡ true
level-among switches more ports switch all h =
    level-among-below switches more ports (port_above ports switch) all (λ port e. by-id switches ports switch.above port all e) h

-- a new switch below a port that stands below two switches at most
pub level-new : (switches more : List Switch) (ports : List DownstreamPort) (port : DownstreamPort) → list_all (is_nested switches ports) ports ≡ true → is_nested switches ports port ≡ true → is_third_level switches ports (bus_of port.id) ≡ false → is_level_below (switches ++ more) ports (Some port) ≡ true
level-new switches more ports port all nested few =
    rw (third-level-among switches more ports (bus_of port.id) all (nested-some ports (switch_on switches (bus_of port.id)) port nested), few) refl
