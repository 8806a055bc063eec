-- What stands in the lists so far stands in the whole lists.
use Rattle.std.proofs.Common.{◌≡◌, ℕ, ◌+◌, ◌==◌, Bool, true, false, refl, ap, ◌∙◌, List, ◌++◌, Option, Some, None}
use Rattle.std.specs.Prelude.{is_some, option_and_then}
use Rattle.std.specs.List.{list_all}
use Rattle.fab_types.specs.Id.{bus_of}
use Rattle.platform.specs.declared.parts.Switch.{Switch}
use Rattle.platform.specs.declared.parts.DownstreamPort.{DownstreamPort}
use Rattle.platform.specs.Tree.{is_third_level, port_above, port_above_bus, port_at, switch_on}
use Rattle.platform.proofs.Bools.{all-weaker}
use Rattle.layout.proofs.Bools.{find-stays}
use Rattle.text_writers.proofs.layouts.Lists.{find-front}

abbrev pub hangs_by : List DownstreamPort → Option ℕ → Bool
hangs_by ports None = true
hangs_by ports (Some id) = is_some (port_at ports id)

-- the port above the switch, if it has one, is among these
abbrev pub hangs_from : List DownstreamPort → Switch → Bool
hangs_from ports switch = hangs_by ports switch.above

hangs-on : (ports more : List DownstreamPort) (above : Option ℕ) → hangs_by ports above ≡ true → hangs_by (ports ++ more) above ≡ true
hangs-on ports more None h = refl
hangs-on ports more (Some id) h = ap is_some (find-stays (λ (port : DownstreamPort). port.id == id) ports more h) ∙ h

pub hang-more : (ports more : List DownstreamPort) (switches : List Switch) → list_all (hangs_from ports) switches ≡ true → list_all (hangs_from (ports ++ more)) switches ≡ true
hang-more ports more switches = all-weaker (hangs_from ports) (hangs_from (ports ++ more)) switches (λ s. hangs-on ports more s.above)

pub above-same : (ports more : List DownstreamPort) (above : Option ℕ) → hangs_by ports above ≡ true
    → option_and_then (λ (id : ℕ). port_at (ports ++ more) id) above ≡ option_and_then (λ (id : ℕ). port_at ports id) above
above-same ports more None h = refl
above-same ports more (Some id) h = find-stays (λ (port : DownstreamPort). port.id == id) ports more h

pub on-same : (switches more : List Switch) (bus : ℕ) (s : Switch) → switch_on switches bus ≡ Some s → switch_on (switches ++ more) bus ≡ Some s
on-same switches more bus s h = find-front (λ (s : Switch). bus_of s.id + 1 == bus) switches more s h

-- ---- what stands above a bus

above-id : (ports more : List DownstreamPort) (above : Option ℕ) (port : DownstreamPort) → option_and_then (λ (id : ℕ). port_at ports id) above ≡ Some port → option_and_then (λ (id : ℕ). port_at (ports ++ more) id) above ≡ Some port
above-id ports more None port h = h
above-id ports more (Some id) port h = find-front (λ (p : DownstreamPort). p.id == id) ports more port h

above-on : (switches more : List Switch) (ports later : List DownstreamPort) (bus : ℕ) (on : Option Switch) (port : DownstreamPort) → switch_on switches bus ≡ on
    → option_and_then (λ (s : Switch). port_above ports s) on ≡ Some port → option_and_then (λ (s : Switch). port_above (ports ++ later) s) (switch_on (switches ++ more) bus) ≡ Some port
above-on switches more ports later bus None port e h = absurd cc
above-on switches more ports later bus (Some s) port e h =
    ap (option_and_then (λ (s : Switch). port_above (ports ++ later) s)) (on-same switches more bus s e) ∙ above-id ports later s.above port h

above-bus : (switches more : List Switch) (ports later : List DownstreamPort) (bus : ℕ) (port : DownstreamPort) → port_above_bus switches ports bus ≡ Some port → port_above_bus (switches ++ more) (ports ++ later) bus ≡ Some port
unfolding port_above_bus
above-bus switches more ports later bus port h = above-on switches more ports later bus (switch_on switches bus) port refl h

some-bus : (switches more : List Switch) (ports later : List DownstreamPort) (bus : ℕ) (o : Option DownstreamPort) → port_above_bus switches ports bus ≡ o → is_some o ≡ true → is_some (port_above_bus (switches ++ more) (ports ++ later) bus) ≡ true
some-bus switches more ports later bus None e h = absurd cc
some-bus switches more ports later bus (Some port) e h = ap is_some (above-bus switches more ports later bus port e)

third-on : (switches more : List Switch) (ports later : List DownstreamPort) (bus : ℕ) (o : Option DownstreamPort) → port_above_bus switches ports bus ≡ o
    → is_some (option_and_then (λ (p : DownstreamPort). port_above_bus switches ports (bus_of p.id)) o) ≡ true
    → is_some (option_and_then (λ (p : DownstreamPort). port_above_bus (switches ++ more) (ports ++ later) (bus_of p.id)) (port_above_bus (switches ++ more) (ports ++ later) bus)) ≡ true
third-on switches more ports later bus None e h = absurd cc
third-on switches more ports later bus (Some port) e h =
    ap (λ (o : Option DownstreamPort). is_some (option_and_then (λ (p : DownstreamPort). port_above_bus (switches ++ more) (ports ++ later) (bus_of p.id)) o)) (above-bus switches more ports later bus port e)
    ∙ some-bus switches more ports later (bus_of port.id) (port_above_bus switches ports (bus_of port.id)) refl h

third-true : (switches more : List Switch) (ports later : List DownstreamPort) (bus : ℕ) → is_third_level switches ports bus ≡ true → is_third_level (switches ++ more) (ports ++ later) bus ≡ true
unfolding is_third_level
third-true switches more ports later bus h = third-on switches more ports later bus (port_above_bus switches ports bus) refl h

-- so a bus that isn't on the third level of the whole isn't yet
pub third-not : (switches more : List Switch) (ports later : List DownstreamPort) (bus : ℕ) → is_third_level (switches ++ more) (ports ++ later) bus ≡ false → is_third_level switches ports bus ≡ false
third-not switches more ports later bus h = go (is_third_level switches ports bus) refl
  where
    go : (b : Bool) → is_third_level switches ports bus ≡ b → b ≡ false
    go false e = refl
    go true e = let whole : is_third_level (switches ++ more) (ports ++ later) bus ≡ true = third-true switches more ports later bus e in absurd cc
