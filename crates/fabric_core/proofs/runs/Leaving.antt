-- A run, and the run of what is left of it, by one event more.
use Rattle.std.proofs.Common.{◌≡◌, ℕ, ◌+◌, ◌<◌, ◌≤◌, Bool, true, false, cond, List, [], ◌∷◌, ◌++◌, length, take, sym, ap, ◌∙◌, subst}
use Rattle.std.specs.Prelude.{All, slice_index_or}
use Rattle.std.proofs.lemmas.List.{append-nil, take_more}
use Rattle.std.proofs.lemmas.List.Elements.{All-append, All-cons, All-nil}
use Rattle.fab_types.specs.declared.outcome.Outcome.{Outcome}
use Rattle.fab_types.specs.declared.outcome.Outcome.TheVariants.{Idle, Moved, NoMemory, Refused}
use Rattle.platform.specs.Platform.{Platform}
use Rattle.layout.specs.Laws.{IsPlatform}
use Rattle.guarded_routes.specs.Guarded.{IsGuarded}
use Rattle.fabric_core.specs.declared.event.Event.{Event}
use Rattle.fabric_core.specs.Events.{StepsTo}
use Rattle.fabric_core.specs.Purging.{BothStep, StepsIf}
use Rattle.fabric_core.specs.Runs.{Run}
use Rattle.fabric_core.specs.TakenOut.{AreBothRuns, CannotTell, HasMemory, after, events_left, is_left, or_same}
use Rattle.fabric_core.specs.World.{World, world_of}
use Rattle.fabric_core.proofs.runs.Running.{run_more, take_all}

-- the world after an event is the one that it steps to
after_step : (w v : World) (e : Event) (o : Outcome) → StepsTo w e o v → after w e o ≡ v
after_step w v e Moved step = ap (or_same w) step
after_step w v e Idle step = sym step.2
after_step w v e (Refused fault) step = sym step.1
after_step w v e NoMemory step = sym step.2

-- of one event
abbrev left_of : Bool → Event → List Event
left_of b e = cond b (e ∷ []) []

left_by : (b : Bool) (x : Event) (xs ys zs : List Event) → xs ≡ ys ++ zs → cond b (x ∷ xs) xs ≡ cond b (x ∷ ys) ys ++ zs
left_by true x xs ys zs is = ap (λ (es : List Event). x ∷ es) is
left_by false x xs ys zs is = is

left_more : (d : ℕ) (w v : World) (es : List Event) (os : List Outcome) (e : Event) (o : Outcome) → Run w es os v → events_left d w (es ++ e ∷ []) (os ++ o ∷ []) ≡ events_left d w es os ++ left_of (is_left d v e o) e
left_more d w v [] [] e o r = ap (λ (x : World). left_of (is_left d x e o) e) (sym r)
left_more d w v (x ∷ es) (y ∷ os) e o r =
    let next = after w x y in
    left_by (is_left d w x y) x (events_left d next (es ++ e ∷ []) (os ++ o ∷ [])) (events_left d next es os) (left_of (is_left d v e o) e)
    (left_more d next v es os e o (subst (λ (z : World). Run z es os v) (sym (after_step w r.0 x y r.1)) r.2))
left_more d w v [] (y ∷ os) e o r = absurd r
left_more d w v (x ∷ es) [] e o r = absurd r

-- ---- both runs

-- the first is a run of these events, and the second one of what is left of them, without want of memory
pub record BothRun (d : ℕ) (start : World) (events : List Event) (first second : World) : Type 0 where
  pub outcomes : List Outcome
  pub run : Run start events outcomes first
  pub outcomes_left : List Outcome
  pub run_left : Run start (events_left d start events outcomes) outcomes_left second
  pub memory : All HasMemory outcomes_left

pub both_start : (d : ℕ) (start first second : World) → first ≡ start → second ≡ start → BothRun d start [] first second
both_start d start first second one other = record { outcomes = []; run = one; outcomes_left = []; run_left = other; memory = All-nil HasMemory }

-- the second run goes on where an event is left
record GoesOn (start : World) (events : List Event) (e : Event) (b : Bool) (second : World) : Type 0 where
  outcomes : List Outcome
  run : Run start (events ++ left_of b e) outcomes second
  memory : All HasMemory outcomes

goes_on : (start second second' : World) (events : List Event) (outcomes : List Outcome) (e : Event) (b : Bool) → Run start events outcomes second → All HasMemory outcomes → StepsIf b e second second' → GoesOn start events e b second'
goes_on start second second' events outcomes e true run memory step = record {
  outcomes = outcomes ++ step.0 ∷ [];
  run = run_more start second second' events outcomes e step.0 run step.1;
  memory = All-append HasMemory outcomes (step.0 ∷ []) memory (All-cons HasMemory step.0 [] step.2 (All-nil HasMemory));
}
goes_on start second second' events outcomes e false run memory step = record {
  outcomes = outcomes;
  run = subst (λ (xs : List Event). Run start xs outcomes second') (sym (append-nil events)) (subst (Run start events outcomes) (sym step) run);
  memory = memory;
}

both_more : (d : ℕ) (start first first' second second' : World) (events : List Event) (e : Event) → BothRun d start events first second → BothStep d e first first' second second' → BothRun d start (events ++ e ∷ []) first' second'
both_more d start first first' second second' events e both step =
    let left = events_left d start events both.outcomes in
    let on = goes_on start second second' left both.outcomes_left e (is_left d first e step.0) both.run_left both.memory step.2 in
    record {
      outcomes = both.outcomes ++ step.0 ∷ [];
      run = run_more start first first' events both.outcomes e step.0 both.run step.1;
      outcomes_left = on.outcomes;
      run_left = subst (λ (xs : List Event). Run start xs on.outcomes second') (sym (left_more d start first events both.outcomes e step.0 both.run)) on.run;
      memory = on.memory;
    }

-- one event more of a list
pub both_next : (d : ℕ) (start first first' second second' : World) (events : List Event) (i : ℕ) (e : Event) → i < length events → e ≡ slice_index_or events i e → BothRun d start (take i events) first second
    → BothStep d e first first' second second' → BothRun d start (take (i + 1) events) first' second'
both_next d start first first' second second' events i e less is both step =
    subst (λ (xs : List Event). BothRun d start xs first' second') (ap (λ (x : Event). take i events ++ x ∷ []) is ∙ sym (take_more events i e less))
    (both_more d start first first' second second' (take i events) e both step)

-- all events, once the loop has gone through them: what the domain has of both follows from the law
pub both_whole : (platform : Platform) (d : ℕ) (first second : World) (events : List Event) (i : ℕ) → IsPlatform platform
    → ((p : Platform) → IsGuarded p → (es : List Event) (os : List Outcome) (end : World) → Run (world_of p) es os end → (n : ℕ) → CannotTell n (world_of p) es os end)
    → length events ≤ i → BothRun d (world_of platform) (take i events) first second → AreBothRuns d (world_of platform) events first second
both_whole platform d first second events i laws law less so_far = whole (subst (λ (xs : List Event). BothRun d (world_of platform) xs first second) (take_all events i less) so_far)
  where
    whole : BothRun d (world_of platform) events first second → AreBothRuns d (world_of platform) events first second
    whole both = record {
      outcomes = both.outcomes;
      run = both.run;
      outcomes_left = both.outcomes_left;
      run_left = both.run_left;
      memory = both.memory;
      moved = λ guarded. (law platform (record { laws = laws; controls = guarded }) events both.outcomes first both.run d both.outcomes_left second both.run_left both.memory).0;
      same = λ guarded. (law platform (record { laws = laws; controls = guarded }) events both.outcomes first both.run d both.outcomes_left second both.run_left both.memory).1;
    }
