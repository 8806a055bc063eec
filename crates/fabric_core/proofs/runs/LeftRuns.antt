-- In a guarded fabric the events of other domains can be taken out of any run.
use Rattle.std.proofs.Common.{◌≡◌, ℕ, Bool, true, false, cond, List, [], ◌∷◌, ◌++◌, map, refl, sym, ap, ◌∙◌, subst, arith}
use Rattle.std.specs.Prelude.{All}
use Rattle.std.proofs.lemmas.List.Elements.{All-cons, All-head, All-map, All-nil, All-tail}
use Rattle.fab_types.specs.declared.outcome.Outcome.{Outcome}
use Rattle.fab_types.specs.declared.outcome.Outcome.TheVariants.{Idle, Moved, NoMemory, Refused}
use Rattle.fab_types.specs.declared.violation.Violation.{Violation}
use Rattle.frame_log.specs.Descriptor.{Descriptor}
use Rattle.layout.specs.Laws.{IsPlatform}
use Rattle.platform.specs.Platform.{Platform}
use Rattle.domains.specs.Agents.{IsSettled, Outbox, agents_of, empty}
use Rattle.domains.proofs.Settling.{settled}
use Rattle.domains.proofs.AgentsStarting as agents
use Rattle.link.specs.Channels.{Channel, count_in}
use Rattle.link.specs.Simplexes.{channel}
use Rattle.outboxes.specs.Outboxes.{BoxView, boxes_of}
use Rattle.domains.specs.Domains.{starting_domains}
use Rattle.interconnect.proofs.Keeping as interconnect
use Rattle.interconnect.specs.Moves.{channel_at}
use Rattle.interconnect.specs.Starts.{nodes_of, start_of}
use Rattle.interconnect.specs.Views.{channels_of}
use Rattle.guarded_routes.specs.Guarded.{IsGuarded}
use Rattle.fabric_core.specs.declared.event.Event.{Event}
use Rattle.fabric_core.specs.Events.{StepsTo}
use Rattle.fabric_core.specs.Invariant.{IsFabric}
use Rattle.fabric_core.specs.Isolation.{domain_of, is_number, own, own_on_link}
use Rattle.fabric_core.specs.Runs.{Run}
use Rattle.fabric_core.specs.TakenOut.{CanBeLeft, CannotTell, HasMemory, HasSame, HaveMoved, after, events_left, is_by, is_left, or_same}
use Rattle.fabric_core.specs.World.{World, world_of}
use Rattle.fabric_core.proofs.bounded.AtStart.{bounded_at_start}
use Rattle.fabric_core.proofs.order.OrderAtStart.{order_new}
use Rattle.fabric_core.proofs.soundness.GuardedStart.{IsQuiet, guarded_start, quiet_at, quiet_nodes}
use Rattle.fabric_core.proofs.runs.LeftEvents.{Accords, goes, kept, skipped}
use Rattle.fabric_core.proofs.runs.MirroredAgents.{function_number}
use Rattle.fabric_core.proofs.runs.Mirrors.{Mirrors, MirrorsLink, MirrorsLinks, own_box}
use Rattle.fabric_core.proofs.runs.OwnMoves.{IsRoomy}
use Rattle.fabric_core.proofs.runs.OwnOnes.{filter_same, own_twice}
use Rattle.fabric_core.proofs.apart.Owning.{own_boxes, own_links}
use Rattle.fabric_core.proofs.runs.Pairwise.{Pairwise, pair_all, pair_map}
use Rattle.fabric_core.proofs.apart.SparedMoves.{same_on_link}
use Rattle.fabric_core.proofs.apart.Sparing.{same_part}
use Rattle.fabric_core.proofs.invariant.Starting.{kept_new}

-- ---- the domain has the same of both

module _ (d : ℕ) where
  same_link : (one other : Channel) → MirrorsLink d one other → own_on_link d other ≡ own_on_link d one
  same_link one other m =
      same_on_link (own d one.egress) (own d other.egress) (own d one.wire) (own d other.wire) (own d one.ingress) (own d other.ingress)
      (ap (own d) m.egress ∙ own_twice d one.egress) (ap (own d) m.wire ∙ own_twice d one.wire) (ap (own d) m.ingress ∙ own_twice d one.ingress)

  same_links : (ones others : List (List Channel)) → MirrorsLinks d ones others → own_links d others ≡ own_links d ones
  same_links ones others m =
      pair_map (Pairwise (MirrorsLink d)) (map (own_on_link d)) (map (own_on_link d)) ones others (λ xs ys all. pair_map (MirrorsLink d) (own_on_link d) (own_on_link d) xs ys same_link all) m

  boxes_twice : (boxes : List Outbox) → own_boxes d (map (own_box d) boxes) ≡ own_boxes d boxes
  boxes_twice [] = refl
  boxes_twice (box ∷ boxes) = ap (λ (xs : List Descriptor). xs ∷ own_boxes d (map (own_box d) boxes)) (own_twice d box.waiting) ∙ ap (λ (xss : List (List Descriptor)). own d box.waiting ∷ xss) (boxes_twice boxes)

  same_of : (is_told : Violation → Bool) (w v : World) → Accords d is_told w v → HasSame d w v
  same_of is_told w v a =
      let m = a.mirrors in
      let finds : (x : Violation) → is_by v d x ≡ is_told x = λ x. ap (is_number d) (function_number w.agents.domains v.agents.domains m.agents.domains.shares x.sender) ∙ a.told x in
      record {
        part = same_part (domain_of w d) (domain_of v d) (own_boxes d w.agents.outboxes) (own_boxes d v.agents.outboxes) (own_links d w.channels) (own_links d v.channels) m.agents.domains.home
            (ap (own_boxes d) m.agents.boxes ∙ boxes_twice w.agents.outboxes) (same_links w.channels v.channels m.links);
        violations = filter_same (is_by v d) is_told v.violations finds ∙ (m.violations ∙ sym (filter_same (is_by w d) is_told w.violations a.told));
      }

-- ---- a run, and a run of what is left

after_is : (w w' : World) (event : Event) (outcome : Outcome) → StepsTo w event outcome w' → after w event outcome ≡ w'
after_is w w' event Moved step = ap (or_same w) step
after_is w w' event Idle step = sym step.2
after_is w w' event (Refused fault) step = sym step.1
after_is w w' event NoMemory step = sym step.2

module _ (d : ℕ) (is_told : Violation → Bool) where
  abbrev Result : List Event → List Outcome → World → World → Type 0
  Result events outcomes first second = HaveMoved events outcomes × Accords d is_told first second

  -- of any run of these
  abbrev Holds : List Event → World → World → Type 0
  Holds events v first = (outcomes : List Outcome) (second : World) → Run v events outcomes second → All HasMemory outcomes → Result events outcomes first second

  one_left : (w v w' first : World) (event : Event) (outcome : Outcome) (events : List Event) → Accords d is_told w v → StepsTo w event outcome w' → is_left d w event outcome ≡ true → ((v' : World) → Accords d is_told w' v' → Holds events v' first)
      → Holds (event ∷ events) v first
  one_left w v w' first event outcome events a step left later [] second run memory = absurd run
  one_left w v w' first event outcome events a step left later (outcome' ∷ outcomes') second run memory =
      let now = kept d is_told w v a event outcome outcome' w' run.0 step run.1 (All-head HasMemory outcome' outcomes' memory) left in
      let rest = later run.0 now.1 outcomes' second run.2 (All-tail HasMemory outcome' outcomes' memory) in
      ((now.0, rest.0), rest.1)

  either : (w v w' first : World) (event : Event) (outcome : Outcome) (events : List Event) (left : Bool) → is_left d w event outcome ≡ left → Accords d is_told w v → StepsTo w event outcome w' → ((v' : World) → Accords d is_told w' v' → Holds events v' first)
      → Holds (cond left (event ∷ events) events) v first
  either w v w' first event outcome events true e a step later = one_left w v w' first event outcome events a step e later
  either w v w' first event outcome events false e a step later = later v (skipped d is_told w v a event outcome w' step e)

  none_left : (w v first : World) → Accords d is_told w v → first ≡ w → Holds [] v first
  none_left w v first a run [] second run' memory = (tt, subst (λ (x : World). Accords d is_told x second) (sym run) (subst (Accords d is_told w) (sym run') a))
  none_left w v first a run (outcome ∷ outcomes') second run' memory = absurd run'

  runs_left : (w v : World) (events : List Event) (outcomes : List Outcome) (first : World) → Accords d is_told w v → Run w events outcomes first → Holds (events_left d w events outcomes) v first
  runs_left w v [] [] first a run = none_left w v first a run
  runs_left w v (event ∷ events) (outcome ∷ outcomes) first a run =
      subst (λ (x : World). Holds (cond (is_left d w event outcome) (event ∷ events_left d x events outcomes) (events_left d x events outcomes)) v first) (sym (after_is w run.0 event outcome run.1))
      (either w v run.0 first event outcome (events_left d run.0 events outcomes) (is_left d w event outcome) refl a run.1 (λ v' b. runs_left run.0 v' events outcomes first b run.2))
  runs_left w v [] (outcome ∷ outcomes) first a run = absurd run
  runs_left w v (event ∷ events) [] first a run = absurd run

  -- ---- there is a run of what is left

  abbrev CanRun : World → List Event → Type 0
  CanRun v events = (outcomes : List Outcome) × (second : World) × Run v events outcomes second × All HasMemory outcomes

  one_more : (w v w' : World) (event : Event) (outcome : Outcome) (events : List Event) → Accords d is_told w v → StepsTo w event outcome w' → is_left d w event outcome ≡ true → ((v' : World) → Accords d is_told w' v' → CanRun v' events)
      → CanRun v (event ∷ events)
  one_more w v w' event outcome events a step left later =
      let now = goes d is_told w v a event outcome w' step left in
      let rest = later now.1 (kept d is_told w v a event outcome now.0 w' now.1 step now.2 now.3 left).1 in
      (now.0 ∷ rest.0, rest.1, (now.1, now.2, rest.2), All-cons HasMemory now.0 rest.0 now.3 rest.3)

  one_or_none : (w v w' : World) (event : Event) (outcome : Outcome) (events : List Event) (left : Bool) → is_left d w event outcome ≡ left → Accords d is_told w v → StepsTo w event outcome w' → ((v' : World) → Accords d is_told w' v' → CanRun v' events)
      → CanRun v (cond left (event ∷ events) events)
  one_or_none w v w' event outcome events true e a step later = one_more w v w' event outcome events a step e later
  one_or_none w v w' event outcome events false e a step later = later v (skipped d is_told w v a event outcome w' step e)

  can_run : (w v : World) (events : List Event) (outcomes : List Outcome) (first : World) → Accords d is_told w v → Run w events outcomes first → CanRun v (events_left d w events outcomes)
  can_run w v [] [] first a run = ([], v, refl, All-nil HasMemory)
  can_run w v (event ∷ events) (outcome ∷ outcomes) first a run =
      subst (λ (x : World). CanRun v (cond (is_left d w event outcome) (event ∷ events_left d x events outcomes) (events_left d x events outcomes))) (sym (after_is w run.0 event outcome run.1))
      (one_or_none w v run.0 event outcome (events_left d run.0 events outcomes) (is_left d w event outcome) refl a run.1 (λ v' b. can_run run.0 v' events outcomes first b run.2))
  can_run w v [] (outcome ∷ outcomes) first a run = absurd run
  can_run w v (event ∷ events) [] first a run = absurd run

-- ---- at the start

module _ (d : ℕ) where
  none_own : (xs : List Descriptor) → xs ≡ [] → xs ≡ own d xs
  none_own xs none = none ∙ sym (ap (own d) none)

  first_none : (xs ys : List Descriptor) → xs ++ ys ≡ [] → xs ≡ []
  first_none [] ys e = refl
  first_none (x ∷ xs) ys e = absurd cc

  second_none : (xs ys : List Descriptor) → xs ++ ys ≡ [] → ys ≡ []
  second_none [] ys e = e
  second_none (x ∷ xs) ys e = absurd cc

  quiet_mirrors : (c : Channel) → IsQuiet c → MirrorsLink d c c
  quiet_mirrors c quiet =
      let behind = second_none c.egress (c.wire ++ c.ingress) quiet in
      record {
        start = refl;
        left = λ k. omega arith;
        egress = none_own c.egress (first_none c.egress (c.wire ++ c.ingress) quiet);
        wire = none_own c.wire (first_none c.wire c.ingress behind);
        ingress = none_own c.ingress (second_none c.wire c.ingress behind);
      }

  empty_boxes : (boxes : List BoxView) → map empty boxes ≡ map (own_box d) (map empty boxes)
  empty_boxes [] = refl
  empty_boxes (box ∷ boxes) = ap (λ (xs : List Outbox). empty box ∷ xs) (empty_boxes boxes)

  start_mirrors : (platform : Platform) → Mirrors d (is_by (world_of platform) d) (world_of platform) (world_of platform)
  start_mirrors platform = record {
    tree = refl;
    routes = refl;
    configs = refl;
    links = pair_all (All IsQuiet) (Pairwise (MirrorsLink d)) (λ xs all. pair_all IsQuiet (MirrorsLink d) quiet_mirrors xs all) (channels_of (nodes_of platform)) (All-map (All IsQuiet) (map channel) (nodes_of platform) (quiet_nodes platform));
    agents = record { domains = record { shares = refl; home = refl }; boxes = empty_boxes (boxes_of platform) };
    violations = refl;
  }

  start_roomy : (platform : Platform) → IsRoomy (world_of platform)
  start_roomy platform end class =
      let c = channel_at (channels_of (nodes_of platform)) end in
      let none : count_in class c.egress ≡ 0 = ap (count_in class) (first_none c.egress (c.wire ++ c.ingress) (quiet_at platform end)) in
      omega (arith, none)

pub start_settled : (platform : Platform) → IsPlatform platform → IsSettled (agents_of platform)
start_settled platform laws = subst IsSettled (agents.start_seen platform) (settled (starting_domains platform) (boxes_of platform) (agents.kept_at_start platform laws))

pub start_fabric : (platform : Platform) → IsGuarded platform → IsFabric (world_of platform)
start_fabric platform guarded = record {
  kept = kept_new platform (start_of platform) (agents_of platform) [] [] refl (interconnect.kept_at_start platform guarded.laws) refl (start_settled platform guarded.laws) refl refl;
  bounded = bounded_at_start platform guarded.laws;
  guarded = λ controls. guarded_start platform guarded;
  ordered = λ controls. order_new platform (start_of platform) (agents_of platform) [] [] refl refl refl refl (guarded_start platform guarded).platform;
}

start_accords : (platform : Platform) → IsGuarded platform → (d : ℕ) → Accords d (is_by (world_of platform) d) (world_of platform) (world_of platform)
start_accords platform guarded d =
    let fabric = start_fabric platform guarded in
    record { mirrors = start_mirrors d platform; roomy = start_roomy d platform; told = λ x. refl; fabric = fabric; guarded = guarded.controls; other = fabric }

pub taken_out : (platform : Platform) → IsGuarded platform → (events : List Event) (outcomes : List Outcome) (first : World) → Run (world_of platform) events outcomes first → (d : ℕ) → CannotTell d (world_of platform) events outcomes first
taken_out platform guarded events outcomes first run d outcomes' second run' memory =
    let w = world_of platform in
    let result = runs_left d (is_by w d) w w events outcomes first (start_accords platform guarded d) run outcomes' second run' memory in
    (result.0, same_of d (is_by w d) first second result.1)

pub can_be_left : (platform : Platform) → IsGuarded platform → (events : List Event) (outcomes : List Outcome) (first : World) → Run (world_of platform) events outcomes first → (d : ℕ) → CanBeLeft d (world_of platform) events outcomes
can_be_left platform guarded events outcomes first run d =
    let w = world_of platform in
    can_run d (is_by w d) w w events outcomes first (start_accords platform guarded d) run
