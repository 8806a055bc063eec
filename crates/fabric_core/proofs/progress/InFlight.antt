-- In a guarded fabric where no event moves anything, nothing is in flight: no packet stands anywhere, and none was lost.
use Rattle.std.proofs.Common.{◌≡◌, ◌⊎◌, inl, inr, ℕ, suc, true, List, [], ◌∷◌, ◌++◌, get_or, slice_get, Option, Some, None, refl, sym, ap, ◌∙◌, subst}
use Rattle.std.specs.Prelude.{count_by, option_map}
use Rattle.std.specs.List.{flat_map, list_all}
use Rattle.fab_types.specs.declared.outcome.Outcome.{Outcome}
use Rattle.fab_types.specs.declared.outcome.Outcome.TheVariants.{Moved, Idle, Refused, NoMemory}
use Rattle.fab_types.specs.declared.place.Direction.{Direction}
use Rattle.fab_types.specs.declared.place.Place.TheVariants as place
use Rattle.frame_log.specs.Descriptor.{Descriptor}
use Rattle.platform.specs.Platform.{Platform}
use Rattle.platform.specs.Share.{is_guarded_port}
use Rattle.domains.specs.Agents.{AreFound, Outbox, outbox_place, waiting_at, waiting_in as waiting_if_any, waiting_of}
use Rattle.bridge.specs.Bridges.{Routes}
use Rattle.domain.specs.Consumed.{times_waiting}
use Rattle.domains.specs.Aliens.{flown}
use Rattle.link.specs.Channels.{Channel}
use Rattle.request_handling.specs.Emissions.{Emission}
use Rattle.topology.specs.Links.{sender_of}
use Rattle.topology.specs.declared.nodes.LinkEnd.{LinkEnd}
use Rattle.interconnect.specs.Moves.{channel_at, no_channel}
use Rattle.guarded_routes.specs.Guarded.{IsGuarded}
use Rattle.fabric_core.specs.declared.event.Event.{Event}
use Rattle.fabric_core.specs.Events.{StepsTo}
use Rattle.fabric_core.specs.Invariant.{IsConsistent}
use Rattle.fabric_core.specs.Places.{frames_from, frames_of, frames_on, is_numbered, strays_of, waiting_in}
use Rattle.fabric_core.specs.Runs.{Run}
use Rattle.fabric_core.specs.Soundness.{IsGuardedFabric}
use Rattle.fabric_core.specs.Still.{Concludes, HasNoneInFlight, IsEmpty}
use Rattle.fabric_core.specs.Trails.{egress_of, ingress_of, wire_of}
use Rattle.fabric_core.specs.World.{World, is_guarded, world_of}
use Rattle.fabric_core.proofs.progress.Drained.{after_run, at_start, kept_step, still_empty}
use Rattle.fabric_core.proofs.soundness.Guarded.{guarded_after}
use Rattle.fabric_core.proofs.soundness.GuardedStart.{guarded_start}

-- ---- lists of nothing

two_none : (xs ys : List Descriptor) → xs ≡ [] → ys ≡ [] → xs ++ ys ≡ []
two_none xs ys first second = ap (λ (zs : List Descriptor). zs ++ ys) first ∙ second

row_none : (row : List Channel) → ((k : ℕ) → frames_on (get_or row k no_channel) ≡ []) → frames_from row ≡ []
row_none [] none = refl
row_none (c ∷ row) none = two_none (frames_on c) (frames_from row) (none 0) (row_none row (λ k. none (suc k)))

rows_none : (rows : List (List Channel)) → ((n k : ℕ) → frames_on (get_or (get_or rows n []) k no_channel) ≡ []) → flat_map frames_from rows ≡ []
rows_none [] none = refl
rows_none (row ∷ rows) none = two_none (frames_from row) (flat_map frames_from rows) (row_none row (λ k. none 0 k)) (rows_none rows (λ n k. none (suc n) k))

boxes_none : (boxes : List Outbox) → ((i : ℕ) (box : Outbox) → slice_get boxes i ≡ Some box → box.waiting ≡ []) → flat_map waiting_in boxes ≡ []
boxes_none [] none = refl
boxes_none (box ∷ boxes) none = two_none box.waiting (flat_map waiting_in boxes) (none 0 box refl) (boxes_none boxes (λ i other there. none (suc i) other there))

-- what counts as none in flight
not_flown : (o : Option Emission) → 0 ≡ times_waiting o → o ≡ None
not_flown None e = refl
not_flown (Some emission) e = absurd cc

module _ (w : World) (kept : IsConsistent w) (g : IsGuardedFabric w) (found : AreFound w.agents.outboxes) (empty : IsEmpty w) where
  -- ---- on links

  sent_none : (direction : Direction) (end : LinkEnd) → sender_of w.tree.links direction ≡ Some end → frames_on (channel_at w.channels end) ≡ []
  sent_none direction end from =
      let here : option_map (channel_at w.channels) (sender_of w.tree.links direction) ≡ Some (channel_at w.channels end) = ap (option_map (channel_at w.channels)) from in
      two_none (channel_at w.channels end).egress ((channel_at w.channels end).wire ++ (channel_at w.channels end).ingress) (sym (ap egress_of here) ∙ empty.none (place.Egress direction))
      (two_none (channel_at w.channels end).wire (channel_at w.channels end).ingress (sym (ap wire_of here) ∙ empty.none (place.Wire direction)) (sym (ap ingress_of here) ∙ empty.none (place.Ingress direction)))

  -- an end that sends no direction has nothing
  end_none : (end : LinkEnd) → frames_on (channel_at w.channels end) ≡ []
  end_none end = go (frames_on (channel_at w.channels end)) refl
    where
      go : (frames : List Descriptor) → frames_on (channel_at w.channels end) ≡ frames → frames_on (channel_at w.channels end) ≡ []
      go [] e = e
      go (f ∷ fs) e = g.sound.elsewhere end (λ direction from. let none : f ∷ fs ≡ [] = sym e ∙ sent_none direction end from in absurd cc)

  -- ---- in outboxes

  box_none : (i : ℕ) (box : Outbox) → slice_get w.agents.outboxes i ≡ Some box → box.waiting ≡ []
  box_none i box there = by (found i box there)
    where
      by : (box.waiting ≡ []) ⊎ (outbox_place w.agents.outboxes box.origin ≡ Some i) → box.waiting ≡ []
      by (inl none) = none
      by (inr at) =
          let waits : waiting_of w.agents.outboxes box.origin ≡ box.waiting = ap (waiting_at w.agents.outboxes) at ∙ ap waiting_if_any there in
          sym waits ∙ empty.none (place.Outbox box.origin)

  frames_none : frames_of w ≡ []
  frames_none =
      two_none (flat_map frames_from w.channels) _ (rows_none w.channels (λ n k. end_none (record { node = n; output = k })))
      (two_none (flat_map waiting_in w.agents.outboxes) _ (boxes_none w.agents.outboxes box_none) (two_none (flat_map strays_of w.ports) w.strays g.sound.ports g.sound.strays))

  -- ---- in flight

  controls : is_guarded w ≡ true
  controls = ap (λ (r : Routes). list_all is_guarded_port r.ports) g.of_it.routes ∙ g.guarded.controls

  pub none_in_flight : HasNoneInFlight w
  none_in_flight = record {
    none = λ domain n.
        let all : frames_of w ++ kept.placed.lost ≡ [] = two_none (frames_of w) kept.placed.lost frames_none (kept.placed.whole controls) in
        let count : count_by (is_numbered domain n) (frames_of w ++ kept.placed.lost) ≡ 0 = ap (count_by (is_numbered domain n)) all in
        not_flown (flown w.agents.domains domain n) (sym count ∙ kept.placed.once domain n);
  }

-- ---- after any run

guarded_step : (w v : World) (event : Event) (outcome : Outcome) → IsConsistent w → IsGuardedFabric w → StepsTo w event outcome v → IsGuardedFabric v
guarded_step w v event Moved kept g step = guarded_after w v event kept g step
guarded_step w v event Idle kept g step = subst IsGuardedFabric (sym step.2) g
guarded_step w v event (Refused fault) kept g step = subst IsGuardedFabric (sym step.1) g
guarded_step w v event NoMemory kept g step = subst IsGuardedFabric (sym step.2) g

guarded_run : (w v : World) (events : List Event) (outcomes : List Outcome) → IsConsistent w → IsGuardedFabric w → Run w events outcomes v → IsGuardedFabric v
guarded_run w v [] [] kept g run = subst IsGuardedFabric (sym run) g
guarded_run w v [] (outcome ∷ outcomes) kept g run = absurd run
guarded_run w v (event ∷ events) [] kept g run = absurd run
guarded_run w v (event ∷ events) (outcome ∷ outcomes) kept g run =
    guarded_run run.0 v events outcomes (kept_step w run.0 event outcome kept run.1) (guarded_step w run.0 event outcome kept g run.1) run.2

pub concludes : (platform : Platform) → IsGuarded platform → Concludes (world_of platform)
concludes platform guarded = record {
  consumed = λ events outcomes w run still.
      let start = at_start platform guarded.laws in
      let after = after_run platform (world_of platform) w events outcomes start run in
      none_in_flight w after.kept (guarded_run (world_of platform) w events outcomes start.kept (guarded_start platform guarded) run) after.found (still_empty platform guarded.laws w after still);
}
