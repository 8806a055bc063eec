-- Packets that move within a link, or onto it, and credits that are returned: fewer moves are left.
use Rattle.std.proofs.Common.{◌≡◌, ◌<◌, Bool, true, false, cond, List, Option, Some, None, refl, sym, ap, subst, arith}
use Rattle.std.specs.Prelude.{option_map}
use Rattle.std.specs.Option.{option_and_then}
use Rattle.std.proofs.lemmas.Option.{same_Some}
use Rattle.fab_types.specs.declared.origin.Origin.{Origin}
use Rattle.fab_types.specs.declared.place.Direction.{Direction}
use Rattle.frame_log.specs.Descriptor.{Descriptor}
use Rattle.domains.specs.Agents.{taken_from, waiting_of}
use Rattle.lane.specs.Lanes.{Class, eligible}
use Rattle.link.specs.Channels.{Channel, is_full}
use Rattle.topology.specs.Links.{sender_of}
use Rattle.topology.specs.declared.nodes.LinkEnd.{LinkEnd}
use Rattle.interconnect.specs.Moves.{channel_at, on_channel, put_at, with_channel}
use Rattle.fabric_core.specs.Events.{enter, entered_at, link_of}
use Rattle.fabric_core.specs.Invariant.{IsConsistent}
use Rattle.fabric_core.specs.MovesLeft.{direction_from, moves_left, moves_of, moves_on}
use Rattle.fabric_core.specs.World.{World, with_both, with_channels}
use Rattle.fabric_core.proofs.invariant.Renewing.{sender_there}
use Rattle.fabric_core.proofs.invariant.Standing.{IsThere}
use Rattle.fabric_core.proofs.moves.Ahead.{IsLaid}
use Rattle.fabric_core.proofs.moves.Boxes.{taken_waiting}
use Rattle.fabric_core.proofs.moves.Links.{lowered, put_there}

module _ (w : World) (kept : IsConsistent w) (laid : IsLaid w) where
  abbrev Fewer : World → Type 0
  Fewer v = moves_left v < moves_left w

  there : (direction : Direction) (end : LinkEnd) → sender_of w.tree.links direction ≡ Some end → IsThere w.channels end
  there direction end from = sender_there w w.channels direction end kept refl from

  -- ---- on a link

  with_lowered : (direction : Direction) (end : LinkEnd) (c : Channel) → sender_of w.tree.links direction ≡ Some end → moves_on w.routes.switches (Some direction) c < moves_on w.routes.switches (Some direction) (channel_at w.channels end)
      → Fewer (with_channels w (with_channel w.channels end c))
  with_lowered direction end c from less =
      let all =
      lowered w.routes.switches w.tree.links w.channels end (there direction end from) c
      (subst (λ (d : Option Direction). moves_on w.routes.switches d c < moves_on w.routes.switches d (channel_at w.channels end)) (sym (laid.own direction end from)) less) in
      omega (arith, all)

  -- a step of one direction that leaves it fewer
  pub step_fewer : (direction : Direction) (step : Channel → Option Channel) → ((c c' : Channel) → step c ≡ Some c' → moves_on w.routes.switches (Some direction) c' < moves_on w.routes.switches (Some direction) c)
      → (v : World) → option_map (with_channels w) (on_channel w.channels (sender_of w.tree.links direction) step) ≡ Some v → Fewer v
  step_fewer direction step fewer v e = by (sender_of w.tree.links direction) refl e
    where
      at : (end : LinkEnd) (o : Option Channel) → sender_of w.tree.links direction ≡ Some end → step (channel_at w.channels end) ≡ o → option_map (with_channels w) (option_map (with_channel w.channels end) o) ≡ Some v → Fewer v
      at end None from is e = absurd cc
      at end (Some c) from is e = subst Fewer (same_Some _ v e) (with_lowered direction end c from (fewer (channel_at w.channels end) c is))

      by : (found : Option LinkEnd) → sender_of w.tree.links direction ≡ found → option_map (with_channels w) (on_channel w.channels found step) ≡ Some v → Fewer v
      by None from e = absurd cc
      by (Some end) from e = at end (step (channel_at w.channels end)) from refl e

  -- ---- onto a link

  module _ (origin : Origin) (class : Class) where
    with_entered : (end : LinkEnd) (frame : Descriptor) (left : List Descriptor) → sender_of w.tree.links (link_of origin) ≡ Some end → eligible class (waiting_of w.agents.outboxes origin) ≡ Some (frame, left)
        → Fewer (with_both w (put_at w.channels end frame) (taken_from w.agents origin left))
    with_entered end frame left from e =
        let put = put_there w.routes.switches w.tree.links w.channels end (there (link_of origin) end from) frame in
        let here : moves_of w.routes.switches 3 (direction_from w.tree.links end) frame ≡ moves_of w.routes.switches 3 (Some (link_of origin)) frame
        = ap (λ (d : Option Direction). moves_of w.routes.switches 3 d frame) (laid.own (link_of origin) end from) in
        let gone = taken_waiting w.routes.switches w.agents.outboxes origin class frame left e in
        omega (arith, put, here, gone)

    entered : (end : LinkEnd) (frame : Descriptor) (left : List Descriptor) → sender_of w.tree.links (link_of origin) ≡ Some end → eligible class (waiting_of w.agents.outboxes origin) ≡ Some (frame, left)
        → (full : Bool) (v : World) → cond full None (Some (with_both w (put_at w.channels end frame) (taken_from w.agents origin left))) ≡ Some v → Fewer v
    entered end frame left from e true v is = absurd cc
    entered end frame left from e false v is = subst Fewer (same_Some _ v is) (with_entered end frame left from e)

    entered_from : (found : Option LinkEnd) (taken : Descriptor × List Descriptor) → sender_of w.tree.links (link_of origin) ≡ found → eligible class (waiting_of w.agents.outboxes origin) ≡ Some taken
        → (v : World) → entered_at w origin class found taken ≡ Some v → Fewer v
    entered_from None taken from e v is = absurd cc
    entered_from (Some end) taken from e v is = entered end taken.0 taken.1 from e (is_full class (channel_at w.channels end)) v is

    entered_if : (o : Option (Descriptor × List Descriptor)) → eligible class (waiting_of w.agents.outboxes origin) ≡ o → (v : World) → option_and_then (entered_at w origin class (sender_of w.tree.links (link_of origin))) o ≡ Some v → Fewer v
    entered_if None e v is = absurd cc
    entered_if (Some taken) e v is = entered_from (sender_of w.tree.links (link_of origin)) taken refl e v is

    pub enter_fewer : (v : World) → enter w origin class ≡ Some v → Fewer v
    enter_fewer v is = entered_if (eligible class (waiting_of w.agents.outboxes origin)) refl v is
