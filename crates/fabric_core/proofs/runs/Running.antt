-- Runs of events.
use Rattle.std.proofs.Common.{◌≡◌, ℕ, zero, suc, ◌+◌, ◌<◌, ◌≤◌, List, [], ◌∷◌, ◌++◌, length, take, refl, sym, ap, ◌∙◌, subst, arith}
use Rattle.std.specs.Prelude.{slice_index_or}
use Rattle.std.proofs.lemmas.List.{take_more}
use Rattle.fab_types.specs.declared.outcome.Outcome.{Outcome}
use Rattle.fabric_core.specs.declared.event.Event.{Event}
use Rattle.fabric_core.specs.Events.{StepsTo}
use Rattle.fabric_core.specs.Runs.{Run}
use Rattle.fabric_core.specs.World.{World}

-- a run goes on by one event
pub run_more : (w v u : World) (es : List Event) (os : List Outcome) (e : Event) (o : Outcome) → Run w es os v → StepsTo v e o u → Run w (es ++ e ∷ []) (os ++ o ∷ []) u
run_more w v u [] [] e o r s = (u, subst (λ (x : World). StepsTo x e o u) r s, refl)
run_more w v u (x ∷ es) (y ∷ os) e o r s = (r.0, r.1, run_more r.0 v u es os e o r.2 s)
run_more w v u [] (y ∷ os) e o r s = absurd r
run_more w v u (x ∷ es) [] e o r s = absurd r

pub take_all : {X : Type 0} (xs : List X) (i : ℕ) → length xs ≤ i → take i xs ≡ xs
take_all [] zero le = refl
take_all [] (suc i) le = refl
take_all (x ∷ xs) zero le = absurd (omega arith)
take_all {X = X} (x ∷ xs) (suc i) le = ap (λ (ys : List X). x ∷ ys) (take_all xs i (omega arith))

-- the run of all events, once the loop has gone through them
pub run_whole : (w v : World) (es : List Event) (os : List Outcome) (i : ℕ) → length es ≤ i → Run w (take i es) os v → Run w es os v
run_whole w v es os i le r = subst (λ (xs : List Event). Run w xs os v) (take_all es i le) r

-- one event more of a list
pub run_next : (w v u : World) (es : List Event) (os os' : List Outcome) (i : ℕ) (e : Event) (o : Outcome) → i < length es → e ≡ slice_index_or es i e → os' ≡ os ++ o ∷ []
    → Run w (take i es) os v → StepsTo v e o u → Run w (take (i + 1) es) os' u
run_next w v u es os os' i e o lt is grown r s =
    subst (λ (xs : List Event). Run w xs os' u) (ap (λ (x : Event). take i es ++ x ∷ []) is ∙ sym (take_more es i e lt))
    (subst (λ (ys : List Outcome). Run w (take i es ++ e ∷ []) ys u) (sym grown) (run_more w v u (take i es) os e o r s))
