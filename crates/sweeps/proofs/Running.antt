-- Runs that go on: events of a sweep, and sweeps.
use Rattle.std.proofs.Common.{◌≡◌, ℕ, suc, ◌+◌, ◌-◌, ◌<◌, ◌≤◌, Bool, true, false, List, [], ◌∷◌, ◌++◌, length, take, refl, sym, ap, ap₂, ◌∙◌, subst, arith}
use Rattle.std.specs.Prelude.{All, ◌||◌, slice_index_or, is_some, Option, Some, None, Result, Ok, Err, IfOk}
use Rattle.std.specs.List.{flat_map, list_any}
use Rattle.std.proofs.lemmas.List.{append-nil}
use Rattle.std.proofs.lemmas.List.Elements.{All-head, All-tail}
use Rattle.std.proofs.lemmas.Grind.{flat_map-append}
use Rattle.std.proofs.lemmas.List.Folds.{list_any-append}
use Rattle.fab_types.specs.declared.outcome.Outcome.{Outcome}
use Rattle.fab_types.specs.declared.outcome.Outcome.TheVariants.{Idle, Moved, Refused, NoMemory}
use Rattle.fab_types.specs.declared.faults.memory.NoMemory.{NoMemory as Fault}
use Rattle.fabric_core.specs.declared.event.Event.{Event}
use Rattle.fabric_core.specs.declared.station.Station.{Station}
use Rattle.fabric_core.specs.Events.{StepsTo}
use Rattle.fabric_core.specs.Runs.{Run}
use Rattle.fab_types.specs.declared.class.Class.{Class}
use Rattle.fabric_core.specs.EligibleClasses.{AreEligible, EligibleClasses, has}
use Rattle.fabric_core.proofs.effect.QuietStations.{none_leaves}
use Rattle.fabric_core.specs.Stations.{events_at, taking}
use Rattle.fabric_core.specs.World.{World}
use Rattle.sweeps.specs.Sweeps.{Sweeps, SweepsUpTo, is_moved, lacks_memory}
use Rattle.fab_types.proofs.Taking.{take_all, take_next}

-- ---- events of a sweep

-- two runs, one after the other
pub run_then : (w v u : World) (es fs : List Event) (os ps : List Outcome) → Run w es os v → Run v fs ps u → Run w (es ++ fs) (os ++ ps) u
run_then w v u [] fs [] ps same rest = subst (λ (x : World). Run x fs ps u) same rest
run_then w v u (e ∷ es) fs (o ∷ os) ps run rest = (run.0, run.1, run_then run.0 v u es fs os ps run.2 rest)
run_then w v u [] fs (o ∷ os) ps run rest = absurd run
run_then w v u (e ∷ es) fs [] ps run rest = absurd run

one : (o : Outcome) → list_any is_moved (o ∷ []) ≡ is_moved o
one Moved = refl
one Idle = refl
one (Refused fault) = refl
one NoMemory = refl

only : (o : Outcome) → list_any lacks_memory (o ∷ []) ≡ lacks_memory o
only Moved = refl
only Idle = refl
only (Refused fault) = refl
only NoMemory = refl

-- one event
pub one_event : (w v : World) (e : Event) (o : Outcome) (moved : Bool) → (moved ≡ is_moved o) × (lacks_memory o ≡ false) → StepsTo w e o v → Sweeps (e ∷ []) w moved v
one_event w v e o moved said step = record { outcomes = o ∷ []; run = (v, step, refl); memory = only o ∙ said.1; moves = said.0 ∙ sym (one o) }

-- and what is said of it, if it isn't want of memory
pub made : (w v : World) (e : Event) (o : Outcome) (answer : Result Bool Fault) → IfOk answer (λ moved. (moved ≡ is_moved o) × (lacks_memory o ≡ false)) → StepsTo w e o v → IfOk answer (λ moved. Sweeps (e ∷ []) w moved v)
made w v e o (Ok moved) said step = one_event w v e o moved said step
made w v e o (Err fault) said step = tt

-- one that finds nothing to take
pub none_taken : (w : World) (e : Event) (home : Option ℕ) → (home ≡ None → StepsTo w e Idle w) → is_some home ≡ false → Sweeps (e ∷ []) w false w
none_taken w e None idle h = one_event w w e Idle false (refl, refl) (idle refl)
none_taken w e (Some domain) idle h = absurd cc

-- ---- stations of a sweep

pub sweep_then : (w v u : World) (es fs : List Event) (m n : Bool) → Sweeps es w m v → Sweeps fs v n u → Sweeps (es ++ fs) w (m || n) u
sweep_then w v u es fs m n first second = record {
  outcomes = first.outcomes ++ second.outcomes;
  run = run_then w v u es fs first.outcomes second.outcomes first.run second.run;
  memory = list_any-append lacks_memory first.outcomes second.outcomes ∙ ap₂ (λ (a b : Bool). a || b) first.memory second.memory;
  moves = ap₂ (λ (a b : Bool). a || b) first.moves second.moves ∙ sym (list_any-append is_moved first.outcomes second.outcomes);
}

-- a class of which no packet may leave
pub none_may : (w : World) (s : Station) (class : Class) (eligible_classes : EligibleClasses) → AreEligible w s eligible_classes → has eligible_classes class ≡ false → Sweeps (taking s class ∷ []) w false w
none_may w s class eligible_classes are none = one_event w w (taking s class) Idle false (refl, refl) (none_leaves w s class (sym (are class) ∙ none))

-- a class of which the packet waits for a place; to ask that changed nothing
pub none_goes_on : (w v : World) (s : Station) (class : Class) → v ≡ w → StepsTo w (taking s class) Idle w → Sweeps (taking s class ∷ []) w false v
none_goes_on w v s class same idle = subst (λ (x : World). Sweeps (taking s class ∷ []) w false x) (sym same) (one_event w w (taking s class) Idle false (refl, refl) idle)

-- the events of three classes
pub three : (w v u x : World) (a b c : Event) (l m n : Bool) → Sweeps (a ∷ []) w l v → Sweeps (b ∷ []) v m u → Sweeps (c ∷ []) u n x → Sweeps (a ∷ b ∷ c ∷ []) w ((l || m) || n) x
three w v u x a b c l m n first second third =
    sweep_then w u x (a ∷ b ∷ []) (c ∷ []) (l || m) n (sweep_then w v u (a ∷ []) (b ∷ []) l m first second) third

-- events that move nothing
pub quiet_sweep : (w : World) (es : List Event) → All (λ e. StepsTo w e Idle w) es → Sweeps es w false w
quiet_sweep w [] idle = record { outcomes = []; run = refl; memory = refl; moves = refl }
quiet_sweep w (e ∷ es) idle =
    let rest = quiet_sweep w es (All-tail (λ (x : Event). StepsTo w x Idle w) e es idle) in record {
      outcomes = Idle ∷ rest.outcomes;
      run = (w, All-head (λ (x : Event). StepsTo w x Idle w) e es idle, rest.run);
      memory = rest.memory;
      moves = rest.moves;
    }

pub stations_start : (w : World) (ss : List Station) → Sweeps (flat_map events_at (take 0 ss)) w false w
stations_start w ss = record { outcomes = []; run = refl; memory = refl; moves = refl }

-- one station more
pub stations_next : (w v u : World) (ss : List Station) (i : ℕ) (s : Station) (m n b : Bool) → i < length ss → s ≡ slice_index_or ss i s → b ≡ (m || n)
    → Sweeps (flat_map events_at (take i ss)) w m v → Sweeps (events_at s) v n u → Sweeps (flat_map events_at (take (i + 1) ss)) w b u
stations_next w v u ss i s m n b lt is both so_far now =
    let more : flat_map events_at (take (i + 1) ss) ≡ flat_map events_at (take i ss) ++ events_at s =
    ap (flat_map events_at) (take_next ss i s lt is) ∙ (flat_map-append events_at (take i ss) (s ∷ []) ∙ ap (λ (es : List Event). flat_map events_at (take i ss) ++ es) (append-nil (events_at s))) in
    subst (λ (es : List Event). Sweeps es w b u) (sym more)
    (subst (λ (x : Bool). Sweeps (flat_map events_at (take i ss) ++ events_at s) w x u) (sym both) (sweep_then w v u (flat_map events_at (take i ss)) (events_at s) m n so_far now))

-- the sweep of all stations, once the loop has gone through them
pub stations_whole : (w v : World) (ss : List Station) (m : Bool) (i : ℕ) → length ss ≤ i → Sweeps (flat_map events_at (take i ss)) w m v → Sweeps (flat_map events_at ss) w m v
stations_whole w v ss m i le s = subst (λ (xs : List Station). Sweeps (flat_map events_at xs) w m v) (take_all ss i le) s

-- ---- sweeps

-- with these ends of what is left, the whole has the same
abbrev pub Leads : List Event → ℕ → World → ℕ → World → Type 0
Leads es most w left v = (u : World) → SweepsUpTo es left v u → SweepsUpTo es most w u

pub leads_start : (es : List Event) (most : ℕ) (w : World) → Leads es most w (most - 0) w
leads_start es most w = λ u h. let all : most - 0 ≡ most = omega arith in subst (λ (n : ℕ). SweepsUpTo es n w u) all h

-- a sweep that moved something, with more that are left
pub leads_next : (es : List Event) (most : ℕ) (w v x : World) (i : ℕ) (m : Bool) → i < most → m ≡ true → Leads es most w (most - i) v → Sweeps es v m x → Leads es most w (most - (i + 1)) x
leads_next es most w v x i m lt moved so_far s = λ u h.
    let left : most - i ≡ suc (most - (i + 1)) = omega arith in
    so_far u (subst (λ (n : ℕ). SweepsUpTo es n v u) (sym left) (true, x, subst (λ (b : Bool). Sweeps es v b x) moved s, h))

-- a sweep that moved nothing is the last
pub leads_last : (es : List Event) (most : ℕ) (w v x : World) (i : ℕ) (m : Bool) → i < most → m ≡ false → Leads es most w (most - i) v → Sweeps es v m x → SweepsUpTo es most w x
leads_last es most w v x i m lt still so_far s =
    let left : most - i ≡ suc (most - (i + 1)) = omega arith in
    so_far x (subst (λ (n : ℕ). SweepsUpTo es n v x) (sym left) (false, x, subst (λ (b : Bool). Sweeps es v b x) still s, refl))

-- none are left
pub leads_end : (es : List Event) (most : ℕ) (w v : World) (i : ℕ) → most ≤ i → Leads es most w (most - i) v → SweepsUpTo es most w v
leads_end es most w v i le so_far =
    let left : most - i ≡ 0 = omega arith in
    so_far v (subst (λ (n : ℕ). SweepsUpTo es n v v) (sym left) refl)
