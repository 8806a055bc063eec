-- Where no event moves anything, no packet stands anywhere, in any layout: posted packets are gone first, which may pass all others;
-- then completions, for which only posted ones are in the way; and then non-posted requests, whose answers have places.
use Rattle.std.proofs.Common.{◌≡◌, ℕ, zero, suc, ◌≤◌, ◌⊎◌, inl, inr, true, List, [], ◌∷◌, map, Option, Some, None, refl, sym, ap, ◌∙◌, subst}
use Rattle.std.specs.Prelude.{All, is_some, option_map, slice_get}
use Rattle.std.proofs.lemmas.List.Elements.{All-head}
use Rattle.fab_types.specs.declared.class.Class.{Class}
use Rattle.fab_types.specs.declared.class.Class.TheVariants.{Posted, NonPosted, Completion}
use Rattle.fab_types.specs.declared.origin.Origin.{Origin}
use Rattle.fab_types.specs.declared.outcome.Outcome.{Outcome}
use Rattle.fab_types.specs.declared.outcome.Outcome.TheVariants.{Moved, Idle, Refused, NoMemory}
use Rattle.fab_types.specs.declared.place.Direction.{Direction}
use Rattle.fab_types.specs.declared.place.Place.{Place}
use Rattle.fab_types.specs.declared.place.Place.TheVariants as place
use Rattle.frame_log.specs.Descriptor.{Descriptor}
use Rattle.layout.specs.Laws.{IsPlatform}
use Rattle.platform.specs.Owners.{is_function}
use Rattle.platform.specs.Platform.{Platform}
use Rattle.domains.specs.Agents.{AreFound, Outbox, agents_of, empty, waiting_of}
use Rattle.domains.specs.Domains.{place_of_function}
use Rattle.lane.specs.Lanes.{class_of, eligible}
use Rattle.link.specs.Channels.{Channel, count_in}
use Rattle.outboxes.specs.Outboxes.{BoxView, boxes_of}
use Rattle.topology.specs.Links.{links_of, sender_of}
use Rattle.topology.specs.Topologies.{Tree}
use Rattle.topology.specs.declared.nodes.LinkEnd.{LinkEnd}
use Rattle.interconnect.proofs.Keeping as interconnect
use Rattle.interconnect.specs.Moves.{channel_at}
use Rattle.interconnect.specs.Starts.{nodes_of, start_of}
use Rattle.interconnect.specs.Views.{channels_of}
use Rattle.fabric_core.specs.declared.event.Event.{Event}
use Rattle.fabric_core.specs.Events.{StepsTo, link_of}
use Rattle.fabric_core.specs.Invariant.{IsConsistent}
use Rattle.fabric_core.specs.Misrouting.{Misrouting, misrouting, misrouted}
use Rattle.fabric_core.specs.Places.{IsFlown}
use Rattle.fabric_core.specs.Runs.{Run}
use Rattle.fabric_core.specs.Soundness.{IsOfPlatform}
use Rattle.fabric_core.specs.Still.{IsEmpty, IsStill, NeverBlocks}
use Rattle.fabric_core.specs.Trails.{egress_of, ingress_of, standing_at, wire_of}
use Rattle.fabric_core.specs.World.{World, world_of}
use Rattle.fabric_core.proofs.effect.Passages.{flown_at}
use Rattle.fabric_core.proofs.invariant.Changing.{taken_out}
use Rattle.fabric_core.proofs.invariant.Keeping.{kept_after}
use Rattle.fabric_core.proofs.invariant.Renewing.{flown_of}
use Rattle.fabric_core.proofs.invariant.Starting.{kept_new}
use Rattle.fabric_core.proofs.order.KeptOrder.{all_standing}
use Rattle.fabric_core.proofs.progress.Classes.{MayPass, completions_pass, non_posted_pass, none_at_all, posted_pass}
use Rattle.fabric_core.proofs.progress.Costs.{small}
use Rattle.fabric_core.proofs.progress.GoodStarts.{good_start}
use Rattle.fabric_core.proofs.progress.Homes.{has_home, has_link}
use Rattle.fabric_core.proofs.progress.MisroutedEnds.{never_stuck}
use Rattle.fabric_core.proofs.progress.Senders.{IsAmple}
use Rattle.fabric_core.proofs.progress.Starts.{SameBoxes, SameStarts, steps_stay}
use Rattle.fabric_core.proofs.progress.Takers.{IsOpen, Without, outbox_without, sends, wire_none}
use Rattle.fabric_core.proofs.progress.Tree.{gone}
use Rattle.fabric_core.proofs.runs.Begun.{step_grow}
use Rattle.fabric_core.proofs.runs.LeftRuns.{start_settled}

-- ---- the fabric of a platform after any run

pub record IsAfterRun (platform : Platform) (w : World) : Type 0 where
  pub kept : IsConsistent w
  pub of_it : IsOfPlatform platform w
  pub starts : SameStarts (channels_of (nodes_of platform)) w.channels
  pub boxes : SameBoxes (agents_of platform).outboxes w.agents.outboxes
  pub found : AreFound w.agents.outboxes

-- nothing waits at the start
none_waits : (boxes : List BoxView) (place : ℕ) (box : Outbox) → slice_get (map empty boxes) place ≡ Some box → box.waiting ≡ []
none_waits [] place box there = absurd cc
none_waits (b ∷ boxes) zero box there = let is : empty b ≡ box = cc in ap (λ (x : Outbox). x.waiting) (sym is)
none_waits (b ∷ boxes) (suc place) box there = none_waits boxes place box there

pub at_start : (platform : Platform) → IsPlatform platform → IsAfterRun platform (world_of platform)
at_start platform laws = record {
  kept = kept_new platform (start_of platform) (agents_of platform) [] [] refl (interconnect.kept_at_start platform laws) refl (start_settled platform laws) refl refl;
  of_it = record { tree = refl; routes = refl; configs = refl; shares = refl };
  starts = λ end. refl;
  boxes = record { origins = refl; found = λ found. found };
  found = λ place box there. inl (none_waits (boxes_of platform) place box there);
}

pub kept_step : (w v : World) (event : Event) (outcome : Outcome) → IsConsistent w → StepsTo w event outcome v → IsConsistent v
kept_step w v event Moved kept step = kept_after w v event kept step
kept_step w v event Idle kept step = subst IsConsistent (sym step.2) kept
kept_step w v event (Refused fault) kept step = subst IsConsistent (sym step.1) kept
kept_step w v event NoMemory kept step = subst IsConsistent (sym step.2) kept

after_step : (platform : Platform) (w v : World) (event : Event) (outcome : Outcome) → IsAfterRun platform w → StepsTo w event outcome v → IsAfterRun platform v
after_step platform w v event outcome was step =
    let stays = steps_stay w v event outcome step in
    record {
      kept = kept_step w v event outcome was.kept step;
      of_it = record {
        tree = stays.tree ∙ was.of_it.tree;
        routes = stays.routes ∙ was.of_it.routes;
        configs = stays.configs ∙ was.of_it.configs;
        shares = (step_grow w v event outcome step).shares ∙ was.of_it.shares;
      };
      starts = λ end. stays.starts end ∙ was.starts end;
      boxes = record { origins = stays.boxes.origins ∙ was.boxes.origins; found = λ found. stays.boxes.found (was.boxes.found found) };
      found = stays.boxes.found was.found;
    }

pub after_run : (platform : Platform) (w v : World) (events : List Event) (outcomes : List Outcome) → IsAfterRun platform w → Run w events outcomes v → IsAfterRun platform v
after_run platform w v [] [] was run = subst (IsAfterRun platform) (sym run) was
after_run platform w v [] (outcome ∷ outcomes) was run = absurd run
after_run platform w v (event ∷ events) [] was run = absurd run
after_run platform w v (event ∷ events) (outcome ∷ outcomes) was run = after_run platform run.0 v events outcomes (after_step platform w run.0 event outcome was run.1) run.2

-- ---- where nothing moves

no_posted : Posted ≡ NonPosted → ⊥
no_posted e = cc

no_completion : Completion ≡ NonPosted → ⊥
no_completion e = cc

module _ (platform : Platform) (laws : IsPlatform platform) (w : World) (after : IsAfterRun platform w) (still : IsStill w) where
  sent : (direction : Direction) (end : LinkEnd) → sender_of (links_of platform) direction ≡ Some end → sends w direction end
  sent direction end e = ap (λ (t : Tree). sender_of t.links direction) after.of_it.tree ∙ e

  back : (direction : Direction) (end : LinkEnd) → sends w direction end → sender_of (links_of platform) direction ≡ Some end
  back direction end e = ap (λ (t : Tree). sender_of t.links direction) (sym after.of_it.tree) ∙ e

  homes : (function : ℕ) → is_function platform.functions function ≡ true → is_some (place_of_function w.agents.domains function) ≡ true
  homes function listed = has_home platform laws w.agents.domains after.of_it.shares function listed

  flown : (class : Class) (end : LinkEnd) (frame : Descriptor) (left : List Descriptor) → eligible class (channel_at w.channels end).ingress ≡ Some (frame, left) → IsFlown w.agents.domains frame
  flown class end frame left e = flown_at w class end frame left (flown_of w after.kept) e

  -- a packet that may be sent
  small_there : (class : Class) (direction : Direction) (end : LinkEnd) → sends w direction end → (frame : Descriptor) (rest : List Descriptor) → eligible class (channel_at w.channels end).egress ≡ Some (frame, rest) → frame.head.cost.«data» ≤ 16
  small_there class direction end from frame rest e =
      let all : All (IsFlown w.agents.domains) (channel_at w.channels end).egress =
      subst (λ (o : Option LinkEnd). All (IsFlown w.agents.domains) (egress_of (option_map (channel_at w.channels) o))) from (all_standing (IsFlown w.agents.domains) w (flown_of w after.kept) (place.Egress direction)) in
      small w.agents.domains frame (All-head (IsFlown w.agents.domains) frame [] ((taken_out class_of class (channel_at w.channels end).egress rest frame e).found (IsFlown w.agents.domains) all))

  opened : (class : Class) → ((direction : Direction) (end : LinkEnd) → sends w direction end → MayPass class (channel_at w.channels end).egress × MayPass class (channel_at w.channels end).ingress) → IsOpen w class
  opened class passes = record {
    ample = λ direction end from. subst IsAmple (sym (after.starts end)) (good_start platform laws direction end (back direction end from));
    small = small_there class;
    passes_egress = λ direction end from. (passes direction end from).0;
    passes_ingress = λ direction end from. (passes direction end from).1;
  }

  -- the completions that answer what a class has in its way are gone
  abbrev Done : Class → Type 0
  Done class = class ≡ NonPosted → (direction : Direction) (end : LinkEnd) → sends w direction end → count_in Completion (channel_at w.channels end).egress ≡ 0

  misroutes : (class : Class) → Done class → (id : ℕ) (l : Misrouting) → misrouting w id class ≡ Some l → misrouted w l ≡ None → ⊥
  misroutes class done = never_stuck platform laws w after.of_it after.kept.built.many class (flown class) (λ is direction end from. done is direction end (sent direction end from))

  without_class : (class : Class) (is_open : IsOpen w class) → Done class → (direction : Direction) → Without w still class is_open direction
  without_class class is_open done = gone platform laws w after.of_it after.kept.built.many still homes class is_open done (misroutes class done)

  -- ---- one class after another

  posted_open : IsOpen w Posted
  posted_open = opened Posted (λ direction end from. (posted_pass (channel_at w.channels end).egress, posted_pass (channel_at w.channels end).ingress))

  posted : (direction : Direction) → Without w still Posted posted_open direction
  posted = without_class Posted posted_open (λ is. absurd (no_posted is))

  completion_open : IsOpen w Completion
  completion_open = opened Completion (λ direction end from. (completions_pass (channel_at w.channels end).egress ((posted direction).egress end from), completions_pass (channel_at w.channels end).ingress ((posted direction).ingress end from)))

  completion : (direction : Direction) → Without w still Completion completion_open direction
  completion = without_class Completion completion_open (λ is. absurd (no_completion is))

  non_posted_open : IsOpen w NonPosted
  non_posted_open = opened NonPosted (λ direction end from. (non_posted_pass (channel_at w.channels end).egress ((posted direction).egress end from), non_posted_pass (channel_at w.channels end).ingress ((posted direction).ingress end from)))

  non_posted : (direction : Direction) → Without w still NonPosted non_posted_open direction
  non_posted = without_class NonPosted non_posted_open (λ is direction end from. (completion direction).egress end from)

  -- ---- nothing is left

  egress_count : (direction : Direction) (end : LinkEnd) → sends w direction end → (class : Class) → count_in class (channel_at w.channels end).egress ≡ 0
  egress_count direction end from Posted = (posted direction).egress end from
  egress_count direction end from NonPosted = (non_posted direction).egress end from
  egress_count direction end from Completion = (completion direction).egress end from

  ingress_count : (direction : Direction) (end : LinkEnd) → sends w direction end → (class : Class) → count_in class (channel_at w.channels end).ingress ≡ 0
  ingress_count direction end from Posted = (posted direction).ingress end from
  ingress_count direction end from NonPosted = (non_posted direction).ingress end from
  ingress_count direction end from Completion = (completion direction).ingress end from

  outbox_none : (origin : Origin) → (waiting_of w.agents.outboxes origin ≡ []) ⊎ ((end : LinkEnd) × (sender_of (links_of platform) (link_of origin) ≡ Some end)) → waiting_of w.agents.outboxes origin ≡ []
  outbox_none origin (inl none) = none
  outbox_none origin (inr (end, from)) = none_at_all (waiting_of w.agents.outboxes origin) counts
    where
      entered : (class : Class) → MayPass class (waiting_of w.agents.outboxes origin) → count_in class (waiting_of w.agents.outboxes origin) ≡ 0
      entered class passes = outbox_without w still class origin end (sent (link_of origin) end from) (egress_count (link_of origin) end (sent (link_of origin) end from) class) passes

      none_posted : count_in Posted (waiting_of w.agents.outboxes origin) ≡ 0
      none_posted = outbox_without w still Posted origin end (sent (link_of origin) end from) (egress_count (link_of origin) end (sent (link_of origin) end from) Posted) (posted_pass (waiting_of w.agents.outboxes origin))

      counts : (class : Class) → count_in class (waiting_of w.agents.outboxes origin) ≡ 0
      counts Posted = none_posted
      counts NonPosted = entered NonPosted (non_posted_pass (waiting_of w.agents.outboxes origin) none_posted)
      counts Completion = entered Completion (completions_pass (waiting_of w.agents.outboxes origin) none_posted)

  on_direction : (part : Option Channel → List Descriptor) (direction : Direction) → part None ≡ [] → ((end : LinkEnd) → sends w direction end → part (Some (channel_at w.channels end)) ≡ []) → part (option_map (channel_at w.channels) (sender_of w.tree.links direction)) ≡ []
  on_direction part direction nowhere there = go (sender_of w.tree.links direction) refl
    where
      go : (o : Option LinkEnd) → sender_of w.tree.links direction ≡ o → part (option_map (channel_at w.channels) (sender_of w.tree.links direction)) ≡ []
      go None e = ap (λ (o : Option LinkEnd). part (option_map (channel_at w.channels) o)) e ∙ nowhere
      go (Some end) e = ap (λ (o : Option LinkEnd). part (option_map (channel_at w.channels) o)) e ∙ there end e

  none_there : (at : Place) → standing_at w at ≡ []
  none_there (place.Outbox origin) = outbox_none origin (has_link platform laws w.agents.outboxes after.boxes.origins origin)
  none_there (place.Egress direction) = on_direction egress_of direction refl (λ end from. none_at_all (channel_at w.channels end).egress (egress_count direction end from))
  none_there (place.Wire direction) = on_direction wire_of direction refl (λ end from. wire_none w still direction end from)
  none_there (place.Ingress direction) = on_direction ingress_of direction refl (λ end from. none_at_all (channel_at w.channels end).ingress (ingress_count direction end from))

  pub still_empty : IsEmpty w
  still_empty = record { none = none_there }

-- from the start of any layout
pub never_blocks : (platform : Platform) → IsPlatform platform → NeverBlocks (world_of platform)
never_blocks platform laws = record {
  left = λ events outcomes w run still. still_empty platform laws w (after_run platform (world_of platform) w events outcomes (at_start platform laws) run) still;
}
