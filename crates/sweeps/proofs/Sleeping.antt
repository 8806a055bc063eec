-- Stations that are asleep, through the visit of a station.
use Rattle.std.proofs.Common.{◌≡◌, ◌⊎◌, inl, inr, ℕ, zero, suc, ◌+◌, ◌-◌, ◌<◌, ◌≤◌, Bool, true, false, List, [], ◌∷◌, ◌++◌, length, map, replicate, set, take, slice_get, Some, refl, sym, ap, ◌∙◌, subst, arith, eqb-true}
use Rattle.std.specs.Prelude.{All, Contains, not, ◌&&◌, ◌||◌, option_map, slice_index_or}
use Rattle.std.specs.List.{flat_map, list_all}
use Rattle.std.proofs.Math.Bool.{or-false}
use Rattle.std.proofs.Math.Nat.{add-zero}
use Rattle.std.proofs.lemmas.List.{length-set}
use Rattle.std.proofs.lemmas.Option.{get_or_from_slice_get, same_Some, slice_get-map, slice_get_cases, slice_get_within}
use Rattle.std.proofs.lemmas.List.Elements.{All-cons, All-head, All-nil, All-tail}
use Rattle.std.proofs.lemmas.Bool.{false≢true, or_parts}
use Rattle.fab_types.specs.declared.class.Class.{Class}
use Rattle.fab_types.specs.declared.class.Class.TheVariants.{Posted, NonPosted, Completion}
use Rattle.fab_types.specs.declared.outcome.Outcome.{Outcome}
use Rattle.fab_types.specs.declared.outcome.Outcome.TheVariants.{Idle, Moved, Refused, NoMemory}
use Rattle.fab_types.specs.declared.place.Direction.{Direction}
use Rattle.bridge.specs.Bridges.{Routes}
use Rattle.layout.specs.Laws.{IsPlatform}
use Rattle.platform.specs.Platform.{Platform}
use Rattle.platform.specs.Share.{is_guarded_port}
use Rattle.topology.specs.Topologies.{Tree, tree_of}
use Rattle.fabric_core.specs.declared.event.Event.{Event}
use Rattle.fabric_core.specs.declared.event.Event.TheVariants.{Arrive, Credit, Enter, Mmio, Pass, Root, Send, Submit, Take, Tick}
use Rattle.fabric_core.specs.declared.station.Station.{Station}
use Rattle.fabric_core.specs.declared.station.Station.TheVariants as station
use Rattle.fabric_core.specs.Events.{StepsTo, effect}
use Rattle.fabric_core.specs.Invariant.{IsFabric}
use Rattle.fabric_core.specs.Runs.{Run}
use Rattle.fabric_core.specs.Stations.{classes, events_at, is_quiet, others_at, taking}
use Rattle.fabric_core.specs.Still.{IsIdleAt}
use Rattle.sweeps.specs.Waking.{changes, changes_outbox, frees, is_outbox_of, is_outbox_of_host, wakes}
use Rattle.fabric_core.specs.World.{World, is_guarded, world_of}
use Rattle.fabric_core.proofs.effect.QuietStations.{quiet_idle}
use Rattle.fabric_core.proofs.invariant.Changing.{all_back, all_front}
use Rattle.fabric_core.proofs.order.InOrder.{fabric_after}
use Rattle.fabric_core.proofs.progress.Starts.{steps_stay}
use Rattle.fabric_core.proofs.runs.LeftRuns.{start_fabric}
use Rattle.fabric_core.proofs.soundness.Orderly.{fabric_step}
use Rattle.sweeps.proofs.Woken.{leaves_quiet, wakes_no_other}
use Rattle.sweeps.specs.declared.wakeful.Wakeful.{Wakeful}
use Rattle.sweeps.specs.declared.moves.Moves.{Moves}
use Rattle.sweeps.specs.declared.site.How.{How}
use Rattle.sweeps.specs.declared.site.How.TheVariants.{Taking, Freeing, Receiving, Updating}
use Rattle.sweeps.specs.declared.watchpoint.Watchpoint.{Watchpoint}
use Rattle.sweeps.specs.Asleep.{AreAsleep, AreWatchpoints, AreWithin, AreWoken, AreWokenBy, IsBegunAt, MaySleep, IsSettledAt, IsUnwoken, IsVisit, IsWokenByBegin, Nowhere, Wakes, are_blocked, has_moved, outbox_begun, receiving_at, site_of, station_of, updating_at, wakes_by}
use Rattle.sweeps.specs.Sweeps.{Sweeps}
use Rattle.sweeps.proofs.Flags.{all_filled, all_mapped, marked_before, marked_here, none_filled, none_mapped}
use Rattle.sweeps.proofs.Running.{quiet_sweep, stations_next, sweep_then}
use Rattle.sweeps.proofs.Settling.{NeverRefused, all_unmoved, classes_never, station_never}

-- ---- what stays through events

step_controls : (w v : World) (event : Event) (outcome : Outcome) → StepsTo w event outcome v → is_guarded v ≡ is_guarded w
step_controls w v event outcome step = ap (λ (r : Routes). list_all is_guarded_port r.ports) (steps_stay w v event outcome step).routes

pub run_tree : (w v : World) (events : List Event) (outcomes : List Outcome) → Run w events outcomes v → v.tree ≡ w.tree
run_tree w v [] [] run = ap (λ (x : World). x.tree) run
run_tree w v [] (outcome ∷ outcomes) run = absurd run
run_tree w v (event ∷ events) [] run = absurd run
run_tree w v (event ∷ events) (outcome ∷ outcomes) run = run_tree run.0 v events outcomes run.2 ∙ (steps_stay w run.0 event outcome run.1).tree

run_controls : (w v : World) (events : List Event) (outcomes : List Outcome) → Run w events outcomes v → is_guarded v ≡ is_guarded w
run_controls w v [] [] run = ap is_guarded run
run_controls w v [] (outcome ∷ outcomes) run = absurd run
run_controls w v (event ∷ events) [] run = absurd run
run_controls w v (event ∷ events) (outcome ∷ outcomes) run = run_controls run.0 v events outcomes run.2 ∙ step_controls w run.0 event outcome run.1

run_fabric : (w v : World) (events : List Event) (outcomes : List Outcome) → Run w events outcomes v → IsFabric w → IsFabric v
run_fabric w v [] [] run fabric = subst IsFabric (sym run) fabric
run_fabric w v [] (outcome ∷ outcomes) run fabric = absurd run
run_fabric w v (event ∷ events) [] run fabric = absurd run
run_fabric w v (event ∷ events) (outcome ∷ outcomes) run fabric = run_fabric run.0 v events outcomes run.2 (fabric_step fabric_after w run.0 event outcome fabric run.1)

-- ---- what events that pass a station by keep of it

abbrev Unwoken : Station → Tree → Event → Type 0
Unwoken t tree event = wakes tree event t ≡ false

abbrev Unchanged : Station → Tree → Event → Type 0
Unchanged t tree event = changes tree event t ≡ false

abbrev IsQuietAt : Station → World → Type 0
IsQuietAt t w = is_quiet w t ≡ true

neither : (a b : Bool) → a ≡ false → b ≡ false → (a || b) ≡ false
neither a b one other = ap (λ (x : Bool). x || b) one ∙ other

-- each such event keeps what holds
abbrev Keeps : (World → Type 0) → (Tree → Event → Type 0) → Type 0
Keeps P PassesBy = (w v : World) (event : Event) → IsFabric w → is_guarded w ≡ true → effect w event ≡ Some v → PassesBy w.tree event → P w → P v

idle_kept : (t : Station) → Keeps (λ w. IsIdleAt w t) (Unwoken t)
idle_kept t w v event fabric controls is none idle = wakes_no_other w v event fabric controls is t none idle

quiet_kept : (t : Station) → Keeps (IsQuietAt t) (Unchanged t)
quiet_kept t w v event fabric controls is none quiet = leaves_quiet w v event fabric controls is t none quiet

module _ (P : World → Type 0) (PassesBy : Tree → Event → Type 0) (keeps : Keeps P PassesBy) where
  step_keeps : (w v : World) (event : Event) (outcome : Outcome) → IsFabric w → is_guarded w ≡ true → StepsTo w event outcome v → PassesBy w.tree event → P w → P v
  step_keeps w v event Moved fabric controls step by was = keeps w v event fabric controls step by was
  step_keeps w v event Idle fabric controls step by was = subst P (sym step.2) was
  step_keeps w v event (Refused fault) fabric controls step by was = subst P (sym step.1) was
  step_keeps w v event NoMemory fabric controls step by was = subst P (sym step.2) was

  run_keeps : (w v : World) (events : List Event) (outcomes : List Outcome) → IsFabric w → is_guarded w ≡ true → Run w events outcomes v → All (PassesBy w.tree) events → P w → P v
  run_keeps w v [] [] fabric controls run by was = subst P (sym run) was
  run_keeps w v [] (outcome ∷ outcomes) fabric controls run by was = absurd run
  run_keeps w v (event ∷ events) [] fabric controls run by was = absurd run
  run_keeps w v (event ∷ events) (outcome ∷ outcomes) fabric controls run by was =
      let mid = run.0 in
      let tree = (steps_stay w mid event outcome run.1).tree in
      run_keeps mid v events outcomes (fabric_step fabric_after w mid event outcome fabric run.1) (step_controls w mid event outcome run.1 ∙ controls) run.2
      (subst (λ (x : Tree). All (PassesBy x) events) (sym tree) (All-tail (PassesBy w.tree) event events by))
      (step_keeps w mid event outcome fabric controls run.1 (All-head (PassesBy w.tree) event events by) was)

  -- by events that are no begins: where any of them moved something, all pass it by
  sweep_keeps : (w v : World) (events : List Event) (moved : Bool) → IsFabric w → is_guarded w ≡ true → All NeverRefused events → Sweeps events w moved v → (moved ≡ true → All (PassesBy w.tree) events) → P w → P v
  sweep_keeps w v events true fabric controls never swept by was = run_keeps w v events swept.outcomes fabric controls swept.run (by refl) was
  sweep_keeps w v events false fabric controls never swept by was = subst P (sym (all_unmoved w v events swept.outcomes never swept.run (sym swept.moves) swept.memory).1) was

-- ---- a visit

each_class : (P : Event → Type 0) (s : Station) → ((class : Class) → P (taking s class)) → All P (map (taking s) classes)
each_class P s each =
    All-cons P (taking s Posted) (taking s NonPosted ∷ taking s Completion ∷ []) (each Posted)
    (All-cons P (taking s NonPosted) (taking s Completion ∷ []) (each NonPosted) (All-cons P (taking s Completion) [] (each Completion) (All-nil P)))

one_event : (P : Event → Type 0) (event : Event) → P event → All P (event ∷ [])
one_event P event is = All-cons P event [] is (All-nil P)

at_receiving : (P : Event → Type 0) (s : Station) → ((direction : Direction) → s ≡ station.Link direction → P (Take direction)) → All P (receiving_at s)
at_receiving P (station.FunctionOutbox function) each = All-nil P
at_receiving P (station.HostOutbox domain) each = All-nil P
at_receiving P (station.Port port) each = All-nil P
at_receiving P (station.Link direction) each = one_event P (Take direction) (each direction refl)
at_receiving P station.Host each = All-nil P
at_receiving P (station.Function function) each = All-nil P

at_updating : (P : Event → Type 0) (s : Station) → ((direction : Direction) → s ≡ station.Link direction → P (Credit direction)) → All P (updating_at s)
at_updating P (station.FunctionOutbox function) each = All-nil P
at_updating P (station.HostOutbox domain) each = All-nil P
at_updating P (station.Port port) each = All-nil P
at_updating P (station.Link direction) each = one_event P (Credit direction) (each direction refl)
at_updating P station.Host each = All-nil P
at_updating P (station.Function function) each = All-nil P

received_never : (s : Station) → All NeverRefused (receiving_at s)
received_never s = at_receiving NeverRefused s (λ direction is w. refl)

updated_never : (s : Station) → All NeverRefused (updating_at s)
updated_never s = at_updating NeverRefused s (λ direction is w. refl)

-- through a visit whose events pass a station by, where they moved something, it keeps what they keep
module _ (w v : World) (s : Station) (moves : Moves) (visit : IsVisit s w moves v) (fabric : IsFabric w) (controls : is_guarded w ≡ true) where
  abbrev u : World
  u = visit.after_taking

  abbrev x : World
  x = visit.after_receiving

  tree_u : u.tree ≡ w.tree
  tree_u = run_tree w u (map (taking s) classes) visit.taken.outcomes visit.taken.run

  tree_x : x.tree ≡ w.tree
  tree_x = run_tree u x (receiving_at s) visit.received.outcomes visit.received.run ∙ tree_u

  fabric_u : IsFabric u
  fabric_u = run_fabric w u (map (taking s) classes) visit.taken.outcomes visit.taken.run fabric

  fabric_x : IsFabric x
  fabric_x = run_fabric u x (receiving_at s) visit.received.outcomes visit.received.run fabric_u

  controls_u : is_guarded u ≡ true
  controls_u = run_controls w u (map (taking s) classes) visit.taken.outcomes visit.taken.run ∙ controls

  controls_x : is_guarded x ≡ true
  controls_x = run_controls u x (receiving_at s) visit.received.outcomes visit.received.run ∙ controls_u

  module _ (P : World → Type 0) (PassesBy : Tree → Event → Type 0) (keeps : Keeps P PassesBy)
      (taken : moves.taken ≡ true → All (PassesBy w.tree) (map (taking s) classes)) (received : moves.received ≡ true → All (PassesBy w.tree) (receiving_at s)) (updated : moves.updated ≡ true → All (PassesBy w.tree) (updating_at s)) where
    visit_keeps : P w → P v
    visit_keeps was =
        let at_u = sweep_keeps P PassesBy keeps w u (map (taking s) classes) moves.taken fabric controls (classes_never s) visit.taken taken was in
        let at_x = sweep_keeps P PassesBy keeps u x (receiving_at s) moves.received fabric_u controls_u (received_never s) visit.received
        (λ moved. subst (λ (r : Tree). All (PassesBy r) (receiving_at s)) (sym tree_u) (received moved)) at_u in
        sweep_keeps P PassesBy keeps x v (updating_at s) moves.updated fabric_x controls_x (updated_never s) visit.updated
        (λ moved. subst (λ (r : Tree). All (PassesBy r) (updating_at s)) (sym tree_x) (updated moved)) at_x

module _ (tree : Tree) (t : Station) where
  abbrev Unlisted : How → Station → Type 0
  Unlisted how s = wakes_by how (site_of tree s) (site_of tree t) ≡ false

  taking_none : (s : Station) (class : Class) → Unlisted Taking s → Unchanged t tree (taking s class)
  taking_none (station.FunctionOutbox function) class none = none
  taking_none (station.HostOutbox domain) class none = none
  taking_none (station.Port port) class none = none
  taking_none (station.Link direction) class none = none
  taking_none station.Host class none = none
  taking_none (station.Function function) class none = none

  freeing_none : (s : Station) (class : Class) → Unlisted Freeing s → frees tree (taking s class) t ≡ false
  freeing_none (station.FunctionOutbox function) class none = refl
  freeing_none (station.HostOutbox domain) class none = refl
  freeing_none (station.Port port) class none = refl
  freeing_none (station.Link direction) class none = none
  freeing_none station.Host class none = refl
  freeing_none (station.Function function) class none = refl

  unlisted_at : (how : How) (s : Station) (direction : Direction) → s ≡ station.Link direction → Unlisted how s → Unlisted how (station.Link direction)
  unlisted_at how s direction is none = ap (λ (q : Station). wakes_by how (site_of tree q) (site_of tree t)) (sym is) ∙ none

-- what isn't listed isn't woken
unlisted : (b : Bool) (P : Type 0) → (b ≡ true → P) → (P → ⊥) → b ≡ false
unlisted true P listed none = absurd (none (listed refl))
unlisted false P listed none = refl

-- a station that isn't woken by what moved stays quiet, and idle where no place was freed for it
module _ (w v : World) (watchpoint other : Watchpoint) (place : ℕ) (moves : Moves) (blocked : List Bool) (visit : IsVisit watchpoint.station w moves v) (fabric : IsFabric w) (controls : is_guarded w ≡ true) (wake : Wakes w.tree watchpoint other place) (none : IsUnwoken watchpoint moves blocked place) where
  abbrev s : Station
  s = watchpoint.station

  abbrev t : Station
  t = other.station

  by_taking : (class : Class) → moves.taken ≡ true → Unchanged t w.tree (taking s class)
  by_taking class moved = taking_none w.tree t s class (unlisted _ _ wake.taking (none.taking moved))

  by_receiving : (direction : Direction) → s ≡ station.Link direction → moves.received ≡ true → Unchanged t w.tree (Take direction)
  by_receiving direction is moved = unlisted_at w.tree t Receiving s direction is (unlisted _ _ wake.receiving (none.receiving moved))

  by_updating : (direction : Direction) → s ≡ station.Link direction → moves.updated ≡ true → Unchanged t w.tree (Credit direction)
  by_updating direction is moved = unlisted_at w.tree t Updating s direction is (unlisted _ _ wake.updating (none.updating moved))

  pub quiet_still : is_quiet w t ≡ true → is_quiet v t ≡ true
  quiet_still = visit_keeps w v s moves visit fabric controls (IsQuietAt t) (Unchanged t) (quiet_kept t)
      (λ moved. each_class (Unchanged t w.tree) s (λ class. by_taking class moved))
      (λ moved. at_receiving (Unchanged t w.tree) s (λ direction is. by_receiving direction is moved))
      (λ moved. at_updating (Unchanged t w.tree) s (λ direction is. by_updating direction is moved))

  pub idle_still : (moves.taken ≡ true → Contains watchpoint.by_freeing.items place → ⊥) → IsIdleAt w t → IsIdleAt v t
  idle_still free = visit_keeps w v s moves visit fabric controls (λ (x : World). IsIdleAt x t) (Unwoken t) (idle_kept t)
      (λ moved. each_class (Unwoken t w.tree) s (λ class. neither _ _ (by_taking class moved) (freeing_none w.tree t s class (unlisted _ _ wake.freeing (free moved)))))
      (λ moved. at_receiving (Unwoken t w.tree) s (λ direction is. neither _ _ (by_receiving direction is moved) refl))
      (λ moved. at_updating (Unwoken t w.tree) s (λ direction is. neither _ _ (by_updating direction is moved) refl))

-- ---- where nothing moved

pub others_split : (s : Station) → receiving_at s ++ updating_at s ≡ others_at s
others_split (station.FunctionOutbox function) = refl
others_split (station.HostOutbox domain) = refl
others_split (station.Port port) = refl
others_split (station.Link direction) = refl
others_split station.Host = refl
others_split (station.Function function) = refl

-- all its events, one after another
pub visited : (s : Station) (w v : World) (moves : Moves) → IsVisit s w moves v → Sweeps (events_at s) w (has_moved moves) v
visited s w v moves visit =
    let others = sweep_then visit.after_taking visit.after_receiving v (receiving_at s) (updating_at s) moves.received moves.updated visit.received visit.updated in
    let all = sweep_then w visit.after_taking v (map (taking s) classes) (receiving_at s ++ updating_at s) moves.taken (moves.received || moves.updated) visit.taken others in
    subst (λ (b : Bool). Sweeps (events_at s) w b v) (or_assoc moves.taken moves.received moves.updated) (subst (λ (es : List Event). Sweeps (map (taking s) classes ++ es) w (moves.taken || (moves.received || moves.updated)) v) (others_split s) all)
  where
    or_assoc : (a b c : Bool) → (a || (b || c)) ≡ ((a || b) || c)
    or_assoc true b c = refl
    or_assoc false b c = refl

falls_asleep : (s : Station) (w v : World) (moves : Moves) → IsVisit s w moves v → has_moved moves ≡ false → IsIdleAt v s
falls_asleep s w v moves visit still =
    let all = visited s w v moves visit in
    let idle = all_unmoved w v (events_at s) all.outcomes (station_never s) all.run (sym all.moves ∙ still) all.memory in
    subst (λ (x : World). IsIdleAt x s) (sym idle.1) idle.0

-- ---- all stations

-- where stations may sleep they may still after any events
may_still : (watchpoints : List Watchpoint) (w v : World) (events : List Event) (outcomes : List Outcome) → Run w events outcomes v → MaySleep watchpoints w → MaySleep watchpoints v
may_still watchpoints w v events outcomes run may = record {
  controls = run_controls w v events outcomes run ∙ may.controls;
  fabric = run_fabric w v events outcomes run may.fabric;
  wake = subst (λ (t : Tree). AreWatchpoints t watchpoints) (sym (run_tree w v events outcomes run)) may.wake;
}

-- at a quiet station nothing moves
quiet_is_idle : (w : World) (s : Station) → is_quiet w s ≡ true → IsIdleAt w s
quiet_is_idle w s quiet = λ k default less. (quiet_idle w s quiet k default less).0

-- where nothing moved and nothing was tried in vain, it was quiet
quiet_unless : (some quiet : Bool) → some ≡ false → (not some && not quiet) ≡ false → quiet ≡ true
quiet_unless some true none blocked = refl
quiet_unless true false none blocked = absurd (false≢true (sym none))
quiet_unless false false none blocked = absurd (false≢true (sym blocked))

module _ (watchpoints : List Watchpoint) (w v : World) (place : ℕ) (watchpoint : Watchpoint) (moves : Moves) (old new : Wakeful) (at : slice_get watchpoints place ≡ Some watchpoint) (asleep : AreAsleep watchpoints w old) (visit : IsVisit watchpoint.station w moves v) (quiet : moves.was_quiet ≡ true → is_quiet v watchpoint.station ≡ true) (same : new.may_sleep ≡ old.may_sleep)
    (marks : new.blocked.items ≡ set old.blocked.items place (are_blocked moves)) (settled : IsSettledAt watchpoint place moves old.may_sleep new.blocked.items old.flags.items new.flags.items) where
  abbrev Case : ℕ → Type 0
  Case other = ((other ≡ place) × (has_moved moves ≡ false) × (old.may_sleep ≡ true)) ⊎ ((other ≡ place → ⊥) × (slice_get old.flags.items other ≡ Some false) × IsUnwoken watchpoint moves new.blocked.items other)

  marked : length new.blocked.items ≡ length watchpoints
  marked = ap (length {A = Bool}) marks ∙ (length-set old.blocked.items place (are_blocked moves) ∙ asleep.blocked)

  sleeps_by : (other : ℕ) → Case other → new.may_sleep ≡ true
  sleeps_by other (inl own) = same ∙ own.2
  sleeps_by other (inr was) = same ∙ asleep.asleep other was.1

  own_watchpoint : (other : ℕ) (t : Watchpoint) → slice_get watchpoints other ≡ Some t → other ≡ place → watchpoint ≡ t
  own_watchpoint other t there own = same_Some watchpoint t (sym at ∙ (ap (slice_get watchpoints) (sym own) ∙ there))

  quiet_by : (other : ℕ) (t : Watchpoint) → slice_get watchpoints other ≡ Some t → Case other → slice_get new.blocked.items other ≡ Some false → is_quiet v t.station ≡ true
  quiet_by other t there (inl own) mark =
      let unmarked : are_blocked moves ≡ false = marked_here old.blocked.items new.blocked.items place (are_blocked moves) marks (ap (slice_get new.blocked.items) (sym own.0) ∙ mark) in
      subst (λ (q : Watchpoint). is_quiet v q.station ≡ true) (own_watchpoint other t there own.0) (quiet (quiet_unless (has_moved moves) moves.was_quiet own.1 unmarked))
  quiet_by other t there (inr was) mark =
      let may = asleep.may (asleep.asleep other was.1) in
      let before = marked_before old.blocked.items new.blocked.items place (are_blocked moves) other marks was.0 mark in
      quiet_still w v watchpoint t other moves new.blocked.items visit may.fabric may.controls (may.wake place other watchpoint t at there) was.2 (asleep.quiet other t there was.1 before)

  -- it may wait for a place, and none was freed for it
  waits_still : (other : ℕ) (t : Watchpoint) → slice_get watchpoints other ≡ Some t → slice_get new.blocked.items other ≡ Some true → slice_get old.flags.items other ≡ Some false → IsUnwoken watchpoint moves new.blocked.items other → IsIdleAt v t.station
  waits_still other t there mark was none =
      let may = asleep.may (asleep.asleep other was) in
      idle_still w v watchpoint t other moves new.blocked.items visit may.fabric may.controls (may.wake place other watchpoint t at there) none
      (λ moved within. false≢true (same_Some false true (sym (none.freeing moved within) ∙ mark))) (asleep.idle other t there was)

  idle_by : (other : ℕ) (t : Watchpoint) → slice_get watchpoints other ≡ Some t → Case other → IsIdleAt v t.station
  idle_by other t there (inl own) = subst (λ (q : Watchpoint). IsIdleAt v q.station) (own_watchpoint other t there own.0) (falls_asleep watchpoint.station w v moves visit own.1)
  idle_by other t there (inr was) =
      let less = slice_get_within watchpoints other t there in
      elim (slice_get_cases new.blocked.items other).1 [
        | inl mark ↦ by mark.0 mark.2
        | inr past ↦ absurd (omega (arith, less, marked, past.0))
      ]
    where
      by : (mark : Bool) → slice_get new.blocked.items other ≡ Some mark → IsIdleAt v t.station
      by false is = quiet_is_idle v t.station (quiet_by other t there (inr was) is)
      by true is = waits_still other t there is was.1 was.2

  may_after : new.may_sleep ≡ true → MaySleep watchpoints v
  may_after sleeps = let all = visited watchpoint.station w v moves visit in may_still watchpoints w v (events_at watchpoint.station) all.outcomes all.run (asleep.may (sym same ∙ sleeps))

  pub asleep_after : AreAsleep watchpoints v new
  asleep_after = record {
    all = settled.all ∙ asleep.all;
    blocked = marked;
    may = may_after;
    asleep = λ other is. sleeps_by other (settled.still other is);
    idle = λ other t there is. idle_by other t there (settled.still other is);
    quiet = λ other t there is mark. quiet_by other t there (settled.still other is) mark;
  }

-- what a watchpoint lists are places that have a flag
pub listed_within : (watchpoints : List Watchpoint) (w : World) (awake : Wakeful) (place : ℕ) (watchpoint : Watchpoint) → slice_get watchpoints place ≡ Some watchpoint → All (AreWithin (length watchpoints)) watchpoints → AreAsleep watchpoints w awake → AreWithin (length awake.flags.items) watchpoint
listed_within watchpoints w awake place watchpoint at within asleep =
    subst (λ (n : ℕ). AreWithin n watchpoint) (sym asleep.all)
    (subst (AreWithin (length watchpoints)) (get_or_from_slice_get watchpoints place watchpoint watchpoint at) (within place watchpoint (slice_get_within watchpoints place watchpoint at)))

-- the watchpoint of the outbox of a begin
module _ (watchpoints : List Watchpoint) (event : Event) (place : ℕ) (begun : IsBegunAt watchpoints event place) (watchpoint : Watchpoint) (is : watchpoint ≡ slice_index_or watchpoints place watchpoint) where
  pub begun_within : (n : ℕ) → n ≡ length watchpoints → All (AreWithin (length watchpoints)) watchpoints → AreWithin n watchpoint
  begun_within n all within =
      subst (λ (m : ℕ). AreWithin m watchpoint) (sym all) (subst (AreWithin (length watchpoints)) (sym is) (within place watchpoint (slice_get_within watchpoints place begun.found.watchpoint begun.found.at)))

  pub begun_woken : (places : List ℕ) (old new : List Bool) → places ≡ watchpoint.by_taking.items → AreWoken Nowhere true places old new → AreWokenBy watchpoints event old new
  begun_woken places old new same woken = inl (record {
    place = place;
    begun = begun;
    woken = subst (λ (ps : List ℕ). AreWoken Nowhere true ps old new) (same ∙ ap (λ (x : Watchpoint). x.by_taking.items) (is ∙ get_or_from_slice_get watchpoints place begun.found.watchpoint watchpoint begun.found.at)) woken;
  })

-- ---- a sweep

-- the events of a station that is asleep move nothing
pub asleep_sweep : (watchpoints : List Watchpoint) (w : World) (awake : Wakeful) (place : ℕ) (watchpoint : Watchpoint) → AreAsleep watchpoints w awake → slice_get watchpoints place ≡ Some watchpoint → slice_get awake.flags.items place ≡ Some false → Sweeps (events_at watchpoint.station) w false w
asleep_sweep watchpoints w awake place watchpoint asleep at is =
    let idle = asleep.idle place watchpoint at is in
    let never = station_never watchpoint.station in
    quiet_sweep w (events_at watchpoint.station) (λ k default less. (idle k default less, never k default less w, refl))

-- one watchpoint more
pub sweep_next : (w v u : World) (watchpoints : List Watchpoint) (i : ℕ) (watchpoint : Watchpoint) (m n b : Bool) → slice_get watchpoints i ≡ Some watchpoint → b ≡ (m || n) → Sweeps (flat_map events_at (take i (map station_of watchpoints))) w m v → Sweeps (events_at watchpoint.station) v n u
    → Sweeps (flat_map events_at (take (i + 1) (map station_of watchpoints))) w b u
sweep_next w v u watchpoints i watchpoint m n b at both so_far now =
    let stations = map station_of watchpoints in
    let there : slice_get stations i ≡ Some watchpoint.station = slice_get-map station_of watchpoints i ∙ ap (option_map station_of) at in
    stations_next w v u stations i watchpoint.station m n b (slice_get_within stations i watchpoint.station there) (sym (get_or_from_slice_get stations i watchpoint.station watchpoint.station there)) both so_far now

-- nor do those of watchpoints in a row, all of which are
pub asleep_row : (w v : World) (watchpoints : List Watchpoint) (awake : Wakeful) (i n : ℕ) (m : Bool) → AreAsleep watchpoints v awake → i + n ≤ length watchpoints
    → ((place : ℕ) → i ≤ place → place < i + n → slice_get awake.flags.items place ≡ Some false)
    → Sweeps (flat_map events_at (take i (map station_of watchpoints))) w m v → Sweeps (flat_map events_at (take (i + n) (map station_of watchpoints))) w m v
asleep_row w v watchpoints awake i zero m asleep within row so_far = subst (λ (k : ℕ). Sweeps (flat_map events_at (take k (map station_of watchpoints))) w m v) (sym (add-zero i)) so_far
asleep_row w v watchpoints awake i (suc n) m asleep within row so_far =
    let before = asleep_row w v watchpoints awake i n m asleep (omega (arith, within)) (λ place least less. row place least (omega (arith, less))) so_far in
    let one_more : i + n + 1 ≡ i + suc n = omega arith in
    elim (slice_get_cases watchpoints (i + n)).1 [
      | inl there ↦ subst (λ (k : ℕ). Sweeps (flat_map events_at (take k (map station_of watchpoints))) w m v) one_more
          (sweep_next w v v watchpoints (i + n) there.0 m false m there.2 (sym (or-false m)) before (asleep_sweep watchpoints v awake (i + n) there.0 asleep there.2 (row (i + n) (omega arith) (omega arith))))
      | inr past ↦ absurd (omega (arith, within, past.0))
    ]

-- up to a place before which all are
pub asleep_up_to : (w v : World) (watchpoints : List Watchpoint) (awake : Wakeful) (i next : ℕ) (m : Bool) → AreAsleep watchpoints v awake → i ≤ next → next ≤ length awake.flags.items
    → ((place : ℕ) → i ≤ place → place < next → slice_get awake.flags.items place ≡ Some false)
    → Sweeps (flat_map events_at (take i (map station_of watchpoints))) w m v → Sweeps (flat_map events_at (take next (map station_of watchpoints))) w m v
asleep_up_to w v watchpoints awake i next m asleep least most row so_far =
    let there : i + (next - i) ≡ next = omega (arith, least) in
    subst (λ (k : ℕ). Sweeps (flat_map events_at (take k (map station_of watchpoints))) w m v) there
    (asleep_row w v watchpoints awake i (next - i) m asleep (omega (arith, least, most, asleep.all)) (λ place from less. row place from (omega (arith, less, least))) so_far)

-- ---- all awake

module _ (watchpoints : List Watchpoint) (w : World) (awake : Wakeful) (all : length awake.flags.items ≡ length watchpoints) (marked : length awake.blocked.items ≡ length watchpoints) (none : (place : ℕ) → slice_get awake.flags.items place ≡ Some false → ⊥) where
  awake_if : (awake.may_sleep ≡ true → MaySleep watchpoints w) → AreAsleep watchpoints w awake
  awake_if may = record { all = all; blocked = marked; may = may; asleep = λ place is. absurd (none place is); idle = λ place watchpoint at is. absurd (none place is); quiet = λ place watchpoint at is mark. absurd (none place is) }

-- where memory was refused
pub kept_awake : (watchpoints : List Watchpoint) (w v : World) (old new : Wakeful) → AreAsleep watchpoints w old → new.may_sleep ≡ false → new.blocked.items ≡ old.blocked.items → new.flags.items ≡ replicate (length old.flags.items) true → AreAsleep watchpoints v new
kept_awake watchpoints w v old new asleep none marks flags =
    awake_if watchpoints v new (all_filled _ _ flags ∙ asleep.all) (ap (length {A = Bool}) marks ∙ asleep.blocked) (none_filled _ _ flags) (λ sleeps. absurd (false≢true (sym none ∙ sleeps)))

-- after a begin, the same but for those that it wakes
own_function : (function : ℕ) (t : Station) → is_outbox_of function t ≡ true → t ≡ station.FunctionOutbox function
own_function function (station.FunctionOutbox other) is = ap station.FunctionOutbox (sym (eqb-true function other is))
own_function function (station.HostOutbox domain) is = absurd cc
own_function function (station.Port port) is = absurd cc
own_function function (station.Link direction) is = absurd cc
own_function function station.Host is = absurd cc
own_function function (station.Function other) is = absurd cc

own_host : (domain : ℕ) (t : Station) → is_outbox_of_host domain t ≡ true → t ≡ station.HostOutbox domain
own_host domain (station.FunctionOutbox function) is = absurd cc
own_host domain (station.HostOutbox other) is = ap station.HostOutbox (sym (eqb-true domain other is))
own_host domain (station.Port port) is = absurd cc
own_host domain (station.Link direction) is = absurd cc
own_host domain station.Host is = absurd cc
own_host domain (station.Function function) is = absurd cc

-- what its outbox doesn't change it doesn't change, and it frees no place
begin_changes : (tree : Tree) (event : Event) (outbox one t : Station) → outbox_begun event ≡ Some outbox → changes_outbox outbox one ≡ true → changes_outbox one t ≡ false → Unchanged t tree event
begin_changes tree (Submit function bytes) outbox one t begun changes none =
    let same = same_Some (station.FunctionOutbox function) outbox begun in
    let own = own_function function one (ap (λ (s : Station). changes_outbox s one) same ∙ changes) in
    ap (λ (s : Station). changes_outbox s t) (sym own) ∙ none
begin_changes tree (Tick function) outbox one t begun changes none =
    let same = same_Some (station.FunctionOutbox function) outbox begun in
    let own = own_function function one (ap (λ (s : Station). changes_outbox s one) same ∙ changes) in
    ap (λ (s : Station). changes_outbox s t) (sym own) ∙ none
begin_changes tree (Mmio domain access) outbox one t begun changes none =
    let same = same_Some (station.HostOutbox domain) outbox begun in
    let own = own_host domain one (ap (λ (s : Station). changes_outbox s one) same ∙ changes) in
    ap (λ (s : Station). changes_outbox s t) (sym own) ∙ none
begin_changes tree (Enter origin class) outbox one t begun changes none = absurd cc
begin_changes tree (Pass port class) outbox one t begun changes none = absurd cc
begin_changes tree (Send direction class) outbox one t begun changes none = absurd cc
begin_changes tree (Take direction) outbox one t begun changes none = absurd cc
begin_changes tree (Credit direction) outbox one t begun changes none = absurd cc
begin_changes tree (Root class) outbox one t begun changes none = absurd cc
begin_changes tree (Arrive function class) outbox one t begun changes none = absurd cc

begin_frees : (tree : Tree) (event : Event) (outbox t : Station) → outbox_begun event ≡ Some outbox → frees tree event t ≡ false
begin_frees tree (Submit function bytes) outbox t begun = refl
begin_frees tree (Tick function) outbox t begun = refl
begin_frees tree (Mmio domain access) outbox t begun = refl
begin_frees tree (Enter origin class) outbox t begun = refl
begin_frees tree (Pass port class) outbox t begun = refl
begin_frees tree (Send direction class) outbox t begun = absurd cc
begin_frees tree (Take direction) outbox t begun = refl
begin_frees tree (Credit direction) outbox t begun = refl
begin_frees tree (Root class) outbox t begun = refl
begin_frees tree (Arrive function class) outbox t begun = refl

module _ (watchpoints : List Watchpoint) (w v : World) (event : Event) (outcome : Outcome) (old new : Wakeful) (asleep : AreAsleep watchpoints w old) (step : StepsTo w event outcome v) (same : new.may_sleep ≡ old.may_sleep) (marks : new.blocked.items ≡ old.blocked.items) where
  marked_again : length new.blocked.items ≡ length watchpoints
  marked_again = ap (length {A = Bool}) marks ∙ asleep.blocked

  may_again : new.may_sleep ≡ true → MaySleep watchpoints v
  may_again sleeps = may_still watchpoints w v (event ∷ []) (outcome ∷ []) (v, step, refl) (asleep.may (sym same ∙ sleeps))

  module _ (woken : IsWokenByBegin watchpoints event old.flags.items new.flags.items) where
    abbrev one : Watchpoint
    one = woken.begun.found.watchpoint

    was : (q : ℕ) → slice_get new.flags.items q ≡ Some false → slice_get old.flags.items q ≡ Some false
    was q is = (woken.woken.still q is).0

    passes_by : (q : ℕ) (t : Watchpoint) → slice_get watchpoints q ≡ Some t → slice_get new.flags.items q ≡ Some false → Unchanged t.station w.tree event
    passes_by q t there is =
        let may = asleep.may (asleep.asleep q (was q is)) in
        let listed = may.wake woken.place q one t woken.begun.found.at there in
        let none = or_parts (changes_outbox one.station t.station) _ (unlisted _ _ listed.taking ((woken.woken.still q is).1 refl)) in
        begin_changes w.tree event woken.begun.outbox one.station t.station woken.begun.begun woken.begun.found.changes none.0

    idle_again : (q : ℕ) (t : Watchpoint) → slice_get watchpoints q ≡ Some t → slice_get new.flags.items q ≡ Some false → IsIdleAt v t.station
    idle_again q t there is =
        let may = asleep.may (asleep.asleep q (was q is)) in
        step_keeps (λ (x : World). IsIdleAt x t.station) (Unwoken t.station) (idle_kept t.station) w v event outcome may.fabric may.controls step
        (neither _ _ (passes_by q t there is) (begin_frees w.tree event woken.begun.outbox t.station woken.begun.begun)) (asleep.idle q t there (was q is))

    quiet_again : (q : ℕ) (t : Watchpoint) → slice_get watchpoints q ≡ Some t → slice_get new.flags.items q ≡ Some false → slice_get new.blocked.items q ≡ Some false → is_quiet v t.station ≡ true
    quiet_again q t there is mark =
        let may = asleep.may (asleep.asleep q (was q is)) in
        step_keeps (IsQuietAt t.station) (Unchanged t.station) (quiet_kept t.station) w v event outcome may.fabric may.controls step
        (passes_by q t there is) (asleep.quiet q t there (was q is) (ap (λ (flags : List Bool). slice_get flags q) (sym marks) ∙ mark))

    by_begin : AreAsleep watchpoints v new
    by_begin = record {
      all = woken.woken.all ∙ asleep.all;
      blocked = marked_again;
      may = may_again;
      asleep = λ q is. same ∙ asleep.asleep q (was q is);
      idle = idle_again;
      quiet = quiet_again;
    }

  pub begun_after : AreWokenBy watchpoints event old.flags.items new.flags.items → AreAsleep watchpoints v new
  begun_after (inl woken) = by_begin woken
  begun_after (inr all) = awake_if watchpoints v new (all_filled _ _ all ∙ asleep.all) marked_again (none_filled _ _ all) may_again

-- at the start
pub awake_new : (watchpoints : List Watchpoint) (platform : Platform) (awake : Wakeful) (guarded : Bool) → IsPlatform platform → guarded ≡ list_all is_guarded_port platform.ports → AreWatchpoints (tree_of platform) watchpoints → awake.may_sleep ≡ guarded → length awake.blocked.items ≡ length watchpoints → awake.flags.items ≡ map (λ (watchpoint : Watchpoint). true) watchpoints
    → AreAsleep watchpoints (world_of platform) awake
awake_new watchpoints platform awake guarded laws is wake same marked flags = awake_if watchpoints (world_of platform) awake (all_mapped watchpoints _ flags) marked (none_mapped watchpoints _ flags) may
  where
    may : awake.may_sleep ≡ true → MaySleep watchpoints (world_of platform)
    may sleeps = let controls : list_all is_guarded_port platform.ports ≡ true = sym is ∙ (sym same ∙ sleeps) in
        record { controls = controls; fabric = start_fabric platform (record { laws = laws; controls = controls }); wake = wake }

-- ---- what a visit did

-- at a quiet station none of the events moved anything
pub quiet_visit : (s : Station) (w : World) → All (λ event. StepsTo w event Idle w) (events_at s) → IsVisit s w (record { taken = false; received = false; updated = false; was_quiet = true }) w
quiet_visit s w idle =
    let P : Event → Type 0 = λ event. StepsTo w event Idle w in
    let others = subst (All P) (sym (others_split s)) (all_back P (map (taking s) classes) (others_at s) idle) in
    record {
      after_taking = w;
      after_receiving = w;
      taken = quiet_sweep w (map (taking s) classes) (all_front P (map (taking s) classes) (others_at s) idle);
      received = quiet_sweep w (receiving_at s) (all_front P (receiving_at s) (updating_at s) others);
      updated = quiet_sweep w (updating_at s) (all_back P (receiving_at s) (updating_at s) others);
    }
