-- In a guarded fabric every event leaves the domains that it is foreign to alone.
use Rattle.std.proofs.Common.{◌≡◌, ℕ, ◌+◌, ◌<◌, ◌≤◌, true, List, [], ◌∷◌, ◌++◌, length, take, Some, refl, sym, ap, ◌∙◌, subst}
use Rattle.std.specs.Prelude.{slice_index_or}
use Rattle.std.proofs.lemmas.List.{take_more}
use Rattle.domain.specs.declared.entry.Entry.TheVariants as entry
use Rattle.fab_types.specs.declared.outcome.Outcome.{Outcome}
use Rattle.fab_types.specs.declared.outcome.Outcome.TheVariants.{Idle, Moved, NoMemory, Refused}
use Rattle.fab_types.specs.declared.origin.Origin.TheVariants as origin
use Rattle.domains.specs.Domains.{place_of, place_of_function}
use Rattle.fabric_core.specs.declared.event.Event.{Event}
use Rattle.fabric_core.specs.declared.event.Event.TheVariants.{Arrive, Credit, Enter, Mmio, Pass, Root, Send, Submit, Take, Tick}
use Rattle.fabric_core.specs.Events.{StepsTo, effect}
use Rattle.fabric_core.specs.Invariant.{IsFabric}
use Rattle.fabric_core.specs.Isolation.{AreApart, IsApart, domain_of, home}
use Rattle.fabric_core.specs.Runs.{Run}
use Rattle.fabric_core.specs.Soundness.{IsGuardedFabric}
use Rattle.fabric_core.specs.World.{World, is_guarded}
use Rattle.fabric_core.proofs.soundness.Orderly.{run_controls}
use Rattle.fabric_core.proofs.apart.Refusing.{accepted_alone, refused_alone}
use Rattle.fabric_core.proofs.runs.Running.{take_all}
use Rattle.fabric_core.proofs.apart.SparedEnds.{spares_arrive, spares_pass, spares_at_host}
use Rattle.fabric_core.proofs.apart.SparedMoves.{spares_begin, spares_enter, spares_receive, spares_send, spares_update_fc}
use Rattle.fabric_core.proofs.apart.Sparing.{Spares, enters_none}

pub spares_others : (w w' : World) (event : Event) → IsGuardedFabric w → effect w event ≡ Some w' → Spares w (home w event) w'
spares_others w w' (Submit function bytes) g is = spares_begin w w' (origin.Function function) (entry.Submit function bytes) (place_of_function w.agents.domains function) is
spares_others w w' (Tick function) g is = spares_begin w w' (origin.Function function) (entry.Tick function) (place_of_function w.agents.domains function) is
spares_others w w' (Mmio domain access) g is = spares_begin w w' (origin.Host domain) (entry.Mmio access) (place_of w.agents.domains domain) is
spares_others w w' (Enter origin class) g is = spares_enter w w' origin class is
spares_others w w' (Pass port class) g is = spares_pass w w' g port class is
spares_others w w' (Send direction class) g is = spares_send w w' direction class is
spares_others w w' (Take direction) g is = spares_receive w w' direction is
spares_others w w' (Credit direction) g is = spares_update_fc w w' direction is
spares_others w w' (Root class) g is = spares_at_host w w' g class is
spares_others w w' (Arrive function class) g is = spares_arrive w w' g function class is

apart_by : (w w' : World) (event : Event) → IsGuardedFabric w → Spares w (home w event) w' → IsApart w event w'
apart_by w w' event g spared = record {
  foreign = spared.foreign;
  own = spared.own;
  refused = λ d e. refused_alone w event d e;
  accepted = λ d e. accepted_alone w event d g e;
}

pub apart_after : (w w' : World) (event : Event) → IsFabric w → is_guarded w ≡ true → effect w event ≡ Some w' → IsApart w event w'
apart_after w w' event fabric guarded is = let g = fabric.guarded guarded in apart_by w w' event g (spares_others w w' event g is)

-- what changes nothing
pub apart_still : (w : World) (event : Event) → IsFabric w → is_guarded w ≡ true → IsApart w event w
apart_still w event fabric guarded = apart_by w w event (fabric.guarded guarded) (record { foreign = λ d other. refl; own = λ d. enters_none (domain_of w d) })

pub apart_step : (w w' : World) (event : Event) (outcome : Outcome) → IsFabric w → StepsTo w event outcome w' → is_guarded w ≡ true → IsApart w event w'
apart_step w w' event Moved fabric step guarded = apart_after w w' event fabric guarded step
apart_step w w' event Idle fabric step guarded = subst (IsApart w event) (sym step.2) (apart_still w event fabric guarded)
apart_step w w' event (Refused fault) fabric step guarded = subst (IsApart w event) (sym step.1) (apart_still w event fabric guarded)
apart_step w w' event NoMemory fabric step guarded = subst (IsApart w event) (sym step.2) (apart_still w event fabric guarded)

-- ---- a run

-- the events of a guarded fabric so far
abbrev pub AreApartIf : World → List Event → List Outcome → World → Type 0
AreApartIf old events outcomes new = is_guarded old ≡ true → AreApart old events outcomes new

-- goes on by one event
apart_more : (w v u : World) (es : List Event) (os : List Outcome) (e : Event) (o : Outcome) → AreApart w es os v → StepsTo v e o u → IsApart v e u → AreApart w (es ++ e ∷ []) (os ++ o ∷ []) u
apart_more w v u [] [] e o r s a = (u, subst (λ (x : World). StepsTo x e o u) r s, subst (λ (x : World). IsApart x e u) r a, refl)
apart_more w v u (x ∷ es) (y ∷ os) e o r s a = (r.0, r.1, r.2, apart_more r.0 v u es os e o r.3 s a)
apart_more w v u [] (y ∷ os) e o r s a = absurd r
apart_more w v u (x ∷ es) [] e o r s a = absurd r

-- one event more of a list
pub apart_next : (w v u : World) (es : List Event) (os os' : List Outcome) (i : ℕ) (e : Event) (o : Outcome) → i < length es → e ≡ slice_index_or es i e → os' ≡ os ++ o ∷ [] → Run w (take i es) os v
    → AreApartIf w (take i es) os v → StepsTo v e o u → (is_guarded v ≡ true → IsApart v e u) → AreApartIf w (take (i + 1) es) os' u
apart_next w v u es os os' i e o less is grown runs so_far step apart guarded =
    subst (λ (xs : List Event). AreApart w xs os' u) (ap (λ (x : Event). take i es ++ x ∷ []) is ∙ sym (take_more es i e less))
    (subst (λ (ys : List Outcome). AreApart w (take i es ++ e ∷ []) ys u) (sym grown)
    (apart_more w v u (take i es) os e o (so_far guarded) step (apart (run_controls w v (take i es) os runs ∙ guarded))))

-- the whole run, once the loop has gone through all events
pub apart_whole : (w v : World) (es : List Event) (os : List Outcome) (i : ℕ) → length es ≤ i → AreApartIf w (take i es) os v → AreApartIf w es os v
apart_whole w v es os i less so_far = subst (λ (xs : List Event). AreApartIf w xs os v) (take_all es i less) so_far
