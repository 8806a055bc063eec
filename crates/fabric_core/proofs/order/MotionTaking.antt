-- A packet that was taken from a direction of a guarded fabric, and what stands there without it.
use Rattle.std.proofs.Common.{◌≡◌, List, Option, Some, None, refl, subst}
use Rattle.std.specs.Prelude.{option_map}
use Rattle.std.proofs.lemmas.Option.{same_Some}
use Rattle.fab_types.specs.declared.place.Direction.{Direction}
use Rattle.fab_types.specs.declared.place.Place.TheVariants.{Egress, Ingress}
use Rattle.frame_log.specs.Descriptor.{Descriptor}
use Rattle.domains.specs.Agents.{Outbox}
use Rattle.lane.specs.Lanes.{Class, eligible}
use Rattle.topology.specs.Links.{sender_of}
use Rattle.topology.specs.declared.nodes.LinkEnd.{LinkEnd}
use Rattle.interconnect.specs.Moves.{channel_at, put_at, with_ingress}
use Rattle.fabric_core.specs.Arrivals.{Taken, taken_at, taken_from}
use Rattle.fabric_core.specs.Invariant.{IsConsistent}
use Rattle.fabric_core.specs.Soundness.{IsGuardedFabric}
use Rattle.fabric_core.specs.Trails.{standing_at, standing_in}
use Rattle.fabric_core.specs.World.{World, with_channels}
use Rattle.fabric_core.proofs.order.MotionMoves.{apart}
use Rattle.fabric_core.proofs.order.Motions.{Motion, Leaps}
use Rattle.fabric_core.proofs.soundness.GuardedEnds.{SoundlyTaken, soundly_taken}
use Rattle.fabric_core.proofs.invariant.Renewing.{SameOutputs, sender_there}
use Rattle.fabric_core.proofs.invariant.Standing.{same_lanes}
use Rattle.fabric_core.proofs.order.AtPlaces.{Joining, Leaving, leave_and_join, left_there, put_to}

module _ (w : World) (kept : IsConsistent w) (g : IsGuardedFabric w) (direction : Direction) where
  -- it is in flight, sound, and left its place
  pub record TakenAway (t : Taken) : Type 0 where
    pub soundly : SoundlyTaken w g direction t
    pub outputs : SameOutputs w.channels t.channels
    pub leaving : Leaving (standing_at w) (standing_in w.tree.links t.channels w.agents.outboxes) (Ingress direction) t.frame

  abbrev Left : Taken → Type 0
  Left t = SameOutputs w.channels t.channels × Leaving (standing_at w) (standing_in w.tree.links t.channels w.agents.outboxes) (Ingress direction) t.frame

  left_by : (class : Class) (end : LinkEnd) (found : Option (Descriptor × List Descriptor)) (t : Taken) → sender_of w.tree.links direction ≡ Some end → eligible class (channel_at w.channels end).ingress ≡ found
      → option_map (taken_from w.channels end) found ≡ Some t → Left t
  left_by class end None t from e is = absurd cc
  left_by class end (Some r) t from e is =
      subst Left (same_Some (taken_from w.channels end r) t is) (
        same_lanes w.channels end (with_ingress (channel_at w.channels end) r.1),
        left_there w.tree.links w.channels direction end (apart w w kept g) from w.agents.outboxes class r.0 r.1 (sender_there w w.channels direction end kept refl from) e,
      )

  left_from : (class : Class) (found : Option LinkEnd) (t : Taken) → sender_of w.tree.links direction ≡ found → taken_at w.channels class found ≡ Some t → Left t
  left_from class None t from is = absurd cc
  left_from class (Some end) t from is = left_by class end (eligible class (channel_at w.channels end).ingress) t from refl is

  pub taken_away : (class : Class) (found : Option LinkEnd) (t : Taken) → sender_of w.tree.links direction ≡ found → taken_at w.channels class found ≡ Some t → TakenAway t
  taken_away class found t from is =
      let l = left_from class found t from is in
      record { soundly = soundly_taken w kept g direction class found t from is; outputs = l.0; leaving = l.1 }

  module _ (t : Taken) (k : TakenAway t) (other : Direction) (end : LinkEnd) (from : sender_of w.tree.links other ≡ Some end) where
    -- a packet is put to a sender then
    pub put_then : (boxes : List Outbox) (frame : Descriptor) → Joining (standing_in w.tree.links t.channels boxes) (standing_in w.tree.links (put_at t.channels end frame) boxes) (Egress other) frame
    put_then boxes frame = put_to w.tree.links t.channels other end (apart w w kept g) from boxes frame (sender_there w t.channels other end kept k.outputs from)

    -- the same one is
    pub goes_then : Leaps g.platform t.frame (Ingress direction) (Egress other) → Motion g.platform w (with_channels w (put_at t.channels end t.frame))
    goes_then leaps =
        Motion.Goes (Ingress direction) (Egress other) t.frame leaps
        (leave_and_join (standing_at w) (standing_in w.tree.links t.channels w.agents.outboxes) (standing_in w.tree.links (put_at t.channels end t.frame) w.agents.outboxes) (Ingress direction) (Egress other) t.frame (λ same. cc)
        k.leaving (put_then w.agents.outboxes t.frame)) refl
