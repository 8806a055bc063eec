-- Packets that move within a link, or onto it, and what a fabric keeps of them.
use Rattle.std.proofs.Common.{◌≡◌, Bool, true, false, cond, List, [], ◌∷◌, ◌++◌, Option, Some, None, refl, sym, subst}
use Rattle.std.specs.Prelude.{IsSome, option_map}
use Rattle.std.specs.Option.{option_and_then}
use Rattle.fab_types.specs.declared.place.Direction.{Direction}
use Rattle.fab_types.specs.declared.origin.Origin.{Origin}
use Rattle.frame_log.specs.Descriptor.{Descriptor}
use Rattle.domains.specs.Agents.{AgentsView, IsSettled, outbox_place, taken_from, waiting_of}
use Rattle.link.specs.Channels.{Channel, deliver, has_room, is_full, received_of, same_counters, send, sent_on, spent, unspent, update_fc, with_egress}
use Rattle.lane.specs.Lanes.{Class, class_of, eligible}
use Rattle.topology.specs.Links.{sender_of}
use Rattle.topology.specs.declared.nodes.LinkEnd.{LinkEnd}
use Rattle.interconnect.specs.Moves.{channel_at, on_channel, put_at, with_channel}
use Rattle.fabric_core.specs.Events.{enter, entered_at, link_of}
use Rattle.fabric_core.specs.Invariant.{IsConsistent}
use Rattle.fabric_core.specs.Places.{frames_on, frames_of}
use Rattle.fabric_core.specs.World.{World, with_both, with_channels}
use Rattle.fabric_core.proofs.invariant.Changing.{Changed, at_back, at_front, grown, taken_out, then_back, unchanged, without_one}
use Rattle.fabric_core.proofs.invariant.Placing.{placed_moved}
use Rattle.fabric_core.proofs.invariant.Renewing.{kept_with, placed_of, sender_there}
use Rattle.fabric_core.proofs.invariant.Settling.{origins_stay}
use Rattle.fabric_core.proofs.invariant.Standing.{IsThere, held, in_outboxes, on_link, on_links, put_there, same_lanes, taken_waiting}

abbrev some : {A : Type 0} → A → Option A
some x = Some x

some_is : {A : Type 0} (x y : A) → some x ≡ some y → x ≡ y
some_is x y e = cc

-- ---- within a link

abbrev Moved : Channel → Channel → Type 1
Moved c c' = Changed (frames_on c) (frames_on c') [] []

sent_by : (class : Class) (c c' : Channel) (taken : Option (Descriptor × List Descriptor)) → eligible class c.egress ≡ taken → sent_on c taken ≡ Some c' → Moved c c'
sent_by class c c' None e is = absurd cc
sent_by class c c' (Some t) e is = by (has_room c.left t.0.head.cost) is
  where
    by : (b : Bool) → cond b (some (record { start = c.start; left = spent c.left t.0.head.cost; egress = t.1; wire = c.wire ++ t.0 ∷ []; ingress = c.ingress })) None ≡ Some c' → Moved c c'
    by true is =
        subst (Moved c) (some_is _ c' is)
        (then_back (c.egress ++ (c.wire ++ c.ingress)) (t.1 ++ (c.wire ++ c.ingress)) (t.1 ++ ((c.wire ++ t.0 ∷ []) ++ c.ingress)) (t.0 ∷ [])
        (at_front c.egress t.1 (c.wire ++ c.ingress) (t.0 ∷ []) [] (taken_out class_of class c.egress t.1 t.0 e))
        (at_back t.1 (c.wire ++ c.ingress) ((c.wire ++ t.0 ∷ []) ++ c.ingress) [] (t.0 ∷ []) (at_front c.wire (c.wire ++ t.0 ∷ []) c.ingress [] (t.0 ∷ []) (grown c.wire (t.0 ∷ [])))))
    by false is = absurd cc

pub send_moves : (class : Class) (c c' : Channel) → send class c ≡ Some c' → Moved c c'
send_moves class c c' is = sent_by class c c' (eligible class c.egress) refl is

received_by : (c c' : Channel) (wire : List Descriptor) → c.wire ≡ wire → received_of c wire ≡ Some c' → Moved c c'
received_by c c' [] e is = absurd cc
received_by c c' (frame ∷ frames) e is =
    subst (λ (ws : List Descriptor). Changed (c.egress ++ (ws ++ c.ingress)) (frames_on c') [] []) (sym e)
    (subst (λ (d : Channel). Changed (c.egress ++ ((frame ∷ frames) ++ c.ingress)) (frames_on d) [] []) (some_is _ c' is)
    (at_back c.egress ((frame ∷ frames) ++ c.ingress) (frames ++ (c.ingress ++ frame ∷ [])) [] []
    (then_back ((frame ∷ frames) ++ c.ingress) (frames ++ c.ingress) (frames ++ (c.ingress ++ frame ∷ [])) (frame ∷ [])
    (at_front (frame ∷ frames) frames c.ingress (frame ∷ []) [] (without_one [] frames frame))
    (at_back frames c.ingress (c.ingress ++ frame ∷ []) [] (frame ∷ []) (grown c.ingress (frame ∷ []))))))

pub receive_moves : (c c' : Channel) → deliver c ≡ Some c' → Moved c c'
receive_moves c c' is = received_by c c' c.wire refl is

updated_by : (c c' : Channel) (most : _) (b : Bool) → cond b None (some (record { start = c.start; left = most; egress = c.egress; wire = c.wire; ingress = c.ingress })) ≡ Some c' → Moved c c'
updated_by c c' most true is = absurd cc
updated_by c c' most false is = subst (Moved c) (some_is _ c' is) (unchanged (frames_on c))

pub update_fc_moves : (c c' : Channel) → update_fc c ≡ Some c' → Moved c c'
update_fc_moves c c' is = let most = unspent c.start (c.wire ++ c.ingress) in updated_by c c' most (same_counters c.left most) is

stepped : (w w' : World) (end : LinkEnd) (o : Option Channel) → IsConsistent w → IsThere w.channels end → ((c' : Channel) → o ≡ Some c' → Moved (channel_at w.channels end) c')
    → option_map (with_channels w) (option_map (with_channel w.channels end) o) ≡ Some w' → IsConsistent w'
stepped w w' end None kept there moves is = absurd cc
stepped w w' end (Some c) kept there moves is =
    let channels = with_channel w.channels end c in
    let moved = on_links w.channels channels w.agents.outboxes w.ports w.strays [] [] (on_link w.channels end c [] [] there (moves c refl)) in
    subst IsConsistent (some_is (with_channels w channels) w' is)
    (kept_with w channels w.agents w.violations w.strays kept (same_lanes w.channels end c) kept.settled kept.shares
    (placed_moved w.agents.domains (frames_of w) (held channels w.agents.outboxes w.ports w.strays) (placed_of w kept) moved))

-- a step of one direction of a link, which keeps its packets
pub kept_step : (w w' : World) (direction : Direction) (step : Channel → Option Channel) → IsConsistent w → ((c c' : Channel) → step c ≡ Some c' → Moved c c')
    → option_map (with_channels w) (on_channel w.channels (sender_of w.tree.links direction) step) ≡ Some w' → IsConsistent w'
kept_step w w' direction step kept moves is = by (sender_of w.tree.links direction) refl is
  where
    by : (found : Option LinkEnd) → sender_of w.tree.links direction ≡ found → option_map (with_channels w) (on_channel w.channels found step) ≡ Some w' → IsConsistent w'
    by None from is = absurd cc
    by (Some end) from is = stepped w w' end (step (channel_at w.channels end)) kept (sender_there w w.channels direction end kept refl from) (λ c' e. moves (channel_at w.channels end) c' e) is

-- ---- onto a link

settled_taken : (agents : AgentsView) (origin : Origin) (rest : List Descriptor) → IsSettled agents → IsSettled (taken_from agents origin rest)
settled_taken agents origin rest s = record {
  numbered = s.numbered;
  boxed = λ other place is. subst IsSome (sym (origins_stay agents.outboxes (outbox_place agents.outboxes origin) rest other)) (s.boxed other place is);
}

entered : (w w' : World) (origin : Origin) (class : Class) (end : LinkEnd) (taken : Descriptor × List Descriptor) → IsConsistent w → IsThere w.channels end → eligible class (waiting_of w.agents.outboxes origin) ≡ Some taken → (b : Bool)
    → cond b None (some (with_both w (put_at w.channels end taken.0) (taken_from w.agents origin taken.1))) ≡ Some w' → IsConsistent w'
entered w w' origin class end taken kept there e true is = absurd cc
entered w w' origin class end taken kept there e false is =
    let channels = put_at w.channels end taken.0 in
    let agents = taken_from w.agents origin taken.1 in
    let c = channel_at w.channels end in
    let left = taken_waiting w.agents.outboxes (outbox_place w.agents.outboxes origin) class taken.0 taken.1 e in
    let moved =
    then_back (frames_of w) (held w.channels agents.outboxes w.ports w.strays) (held channels agents.outboxes w.ports w.strays) (taken.0 ∷ [])
    (in_outboxes w.channels w.agents.outboxes agents.outboxes w.ports w.strays (taken.0 ∷ []) [] left)
    (on_links w.channels channels agents.outboxes w.ports w.strays [] (taken.0 ∷ []) (put_there w.channels end taken.0 there)) in
    subst IsConsistent (some_is (with_both w channels agents) w' is)
    (kept_with w channels agents w.violations w.strays kept (same_lanes w.channels end (with_egress c (c.egress ++ taken.0 ∷ []))) (settled_taken w.agents origin taken.1 kept.settled) kept.shares
    (placed_moved w.agents.domains (frames_of w) (held channels agents.outboxes w.ports w.strays) (placed_of w kept) moved))

entered_from : (w w' : World) (origin : Origin) (class : Class) (found : Option LinkEnd) (taken : Descriptor × List Descriptor) → IsConsistent w → sender_of w.tree.links (link_of origin) ≡ found → eligible class (waiting_of w.agents.outboxes origin) ≡ Some taken
    → entered_at w origin class found taken ≡ Some w' → IsConsistent w'
entered_from w w' origin class None taken kept from e is = absurd cc
entered_from w w' origin class (Some end) taken kept from e is =
    entered w w' origin class end taken kept (sender_there w w.channels (link_of origin) end kept refl from) e (is_full class (channel_at w.channels end)) is

entered_if : (w w' : World) (origin : Origin) (class : Class) (o : Option (Descriptor × List Descriptor)) → IsConsistent w → eligible class (waiting_of w.agents.outboxes origin) ≡ o
    → option_and_then (entered_at w origin class (sender_of w.tree.links (link_of origin))) o ≡ Some w' → IsConsistent w'
entered_if w w' origin class None kept e is = absurd cc
entered_if w w' origin class (Some taken) kept e is = entered_from w w' origin class (sender_of w.tree.links (link_of origin)) taken kept refl e is

pub kept_enter : (w w' : World) (origin : Origin) (class : Class) → IsConsistent w → enter w origin class ≡ Some w' → IsConsistent w'
kept_enter w w' origin class kept is = entered_if w w' origin class (eligible class (waiting_of w.agents.outboxes origin)) kept refl is
