-- What all packets of a fabric become where those of one place change.
use Rattle.std.proofs.Common.{◌≡◌, ℕ, ◌<◌, List, [], ◌∷◌, ◌++◌, length, map, get_or, set, Option, Some, None, refl, sym, ap, ◌∙◌, subst, arith}
use Rattle.std.specs.Prelude.{IsSome, option_to_list, slice_get}
use Rattle.std.specs.List.{flat_map}
use Rattle.std.proofs.lemmas.List.{get_or-map, length-map, length-set}
use Rattle.std.proofs.lemmas.List.Quantifiers.{position-Some}
use Rattle.std.proofs.lemmas.Option.{get_or_from_slice_get, slice_get-get_or, slice_get_within}
use Rattle.std.proofs.Math.Seq.{map-set_same}
use Rattle.fab_types.specs.declared.origin.Origin.{Origin}
use Rattle.frame_log.specs.Descriptor.{Descriptor}
use Rattle.domains.specs.Agents.{Outbox, joined, outbox_place, waiting_at, waiting_in as waiting_found, with_waiting_at, with_waiting_in}
use Rattle.fab_types.specs.Origins.{same_origin}
use Rattle.link.specs.Channels.{Channel, with_egress}
use Rattle.lane.specs.Lanes.{Class, class_of, eligible}
use Rattle.port.specs.Turns.{PortView}
use Rattle.topology.specs.Topologies.{IsEnd}
use Rattle.topology.specs.declared.nodes.LinkEnd.{LinkEnd}
use Rattle.interconnect.specs.Moves.{channel_at, left_at, no_channel, put_at, with_channel, with_ingress}
use Rattle.interconnect.specs.Passes.{no_port}
use Rattle.fabric_core.specs.Passing.{kept_by}
use Rattle.fabric_core.specs.Places.{frames_from, frames_on, strays_of, waiting_in}
use Rattle.fabric_core.proofs.invariant.Changing.{Changed, at_back, at_front, at_one, grown, taken_out, unchanged}

-- all packets that stand in these places
abbrev pub held : List (List Channel) → List Outbox → List PortView → List Descriptor → List Descriptor
held channels boxes ports strays = flat_map frames_from channels ++ (flat_map waiting_in boxes ++ (flat_map strays_of ports ++ strays))

-- ---- on links

abbrev many : List Channel → ℕ
many outputs = length outputs

-- there is such an output
pub record IsThere (channels : List (List Channel)) (end : LinkEnd) : Type 0 where
  pub node : end.node < length channels
  pub output : end.output < length (get_or channels end.node [])

pub end_there : (channels : List (List Channel)) (outputs : List ℕ) (end : LinkEnd) → map (length {A = Channel}) channels ≡ outputs → IsEnd outputs end → IsThere channels end
end_there channels outputs end same is =
    let node : end.node < length channels = (let long = length-map channels many in let all = ap length same in omega (arith, is.0)) in
    let as_many : get_or outputs end.node 0 ≡ length (get_or channels end.node []) = ap (λ (ns : List ℕ). get_or ns end.node 0) (sym same) ∙ get_or-map many channels end.node [] 0 node in
    record { node = node; output = omega (arith, is.1, as_many) }

-- the lengths stay
pub same_lanes : (channels : List (List Channel)) (end : LinkEnd) (c : Channel) → map (length {A = Channel}) (with_channel channels end c) ≡ map (length {A = Channel}) channels
same_lanes channels end c = map-set_same many channels end.node (set (get_or channels end.node []) end.output c) [] (length-set (get_or channels end.node []) end.output c)

pub on_link : (channels : List (List Channel)) (end : LinkEnd) (c : Channel) (lost gained : List Descriptor) → IsThere channels end → Changed (frames_on (channel_at channels end)) (frames_on c) lost gained
    → Changed (flat_map frames_from channels) (flat_map frames_from (with_channel channels end c)) lost gained
on_link channels end c lost gained there changed =
    let outputs = get_or channels end.node [] in
    at_one frames_from channels end.node [] (set outputs end.output c) lost gained there.node (at_one frames_on outputs end.output no_channel c lost gained there.output changed)

pub put_there : (channels : List (List Channel)) (end : LinkEnd) (frame : Descriptor) → IsThere channels end → Changed (flat_map frames_from channels) (flat_map frames_from (put_at channels end frame)) [] (frame ∷ [])
put_there channels end frame there =
    let c = channel_at channels end in
    on_link channels end (with_egress c (c.egress ++ frame ∷ [])) [] (frame ∷ []) there (at_front c.egress (c.egress ++ frame ∷ []) (c.wire ++ c.ingress) [] (frame ∷ []) (grown c.egress (frame ∷ [])))

pub taken_there : (channels : List (List Channel)) (end : LinkEnd) (class : Class) (frame : Descriptor) (rest : List Descriptor) → IsThere channels end → eligible class (channel_at channels end).ingress ≡ Some (frame, rest)
    → Changed (flat_map frames_from channels) (flat_map frames_from (left_at channels end rest)) (frame ∷ []) []
taken_there channels end class frame rest there e =
    let c = channel_at channels end in
    on_link channels end (with_ingress c rest) (frame ∷ []) [] there
    (at_back c.egress (c.wire ++ c.ingress) (c.wire ++ rest) (frame ∷ []) []
    (at_back c.wire c.ingress rest (frame ∷ []) [] (taken_out class_of class c.ingress rest frame e)))

-- ---- in outboxes

abbrev box_at : Origin → List Descriptor → Outbox
box_at origin waiting = record { origin = origin; waiting = waiting }

waits : (boxes : List Outbox) (place : ℕ) (box : Outbox) (waiting lost gained : List Descriptor) → slice_get boxes place ≡ Some box → Changed box.waiting waiting lost gained
    → Changed (flat_map waiting_in boxes) (flat_map waiting_in (set boxes place (box_at box.origin waiting))) lost gained
waits boxes place box waiting lost gained at changed =
    let there = slice_get_within boxes place box at in
    let same : get_or boxes place box ≡ box = get_or_from_slice_get boxes place box box at in
    at_one waiting_in boxes place box (box_at box.origin waiting) lost gained there (subst (λ (b : Outbox). Changed b.waiting waiting lost gained) (sym same) changed)

waits_in : (boxes : List Outbox) (place : ℕ) (found : Option Outbox) (waiting lost gained : List Descriptor) → slice_get boxes place ≡ found → IsSome found → Changed (waiting_found found) waiting lost gained
    → Changed (flat_map waiting_in boxes) (flat_map waiting_in (with_waiting_in boxes place waiting found)) lost gained
waits_in boxes place None waiting lost gained at there changed = absurd cc
waits_in boxes place (Some box) waiting lost gained at there changed = waits boxes place box waiting lost gained at changed

taken_from_box : (boxes : List Outbox) (place : ℕ) (found : Option Outbox) (class : Class) (frame : Descriptor) (rest : List Descriptor) → slice_get boxes place ≡ found → eligible class (waiting_found found) ≡ Some (frame, rest)
    → Changed (flat_map waiting_in boxes) (flat_map waiting_in (with_waiting_in boxes place rest found)) (frame ∷ []) []
taken_from_box boxes place None class frame rest at e = absurd cc
taken_from_box boxes place (Some box) class frame rest at e = waits boxes place box rest (frame ∷ []) [] at (taken_out class_of class box.waiting rest frame e)

-- the eligible packet of an outbox leaves it
pub taken_waiting : (boxes : List Outbox) (place : Option ℕ) (class : Class) (frame : Descriptor) (rest : List Descriptor) → eligible class (waiting_at boxes place) ≡ Some (frame, rest)
    → Changed (flat_map waiting_in boxes) (flat_map waiting_in (with_waiting_at boxes rest place)) (frame ∷ []) []
taken_waiting boxes None class frame rest e = absurd cc
taken_waiting boxes (Some place) class frame rest e = taken_from_box boxes place (slice_get boxes place) class frame rest refl e

joined_at : (boxes : List Outbox) (place : ℕ) (origin : Origin) (frame : Descriptor) → place < length boxes
    → Changed (flat_map waiting_in boxes) (flat_map waiting_in (with_waiting_at boxes (waiting_at boxes (Some place) ++ frame ∷ []) (Some place))) [] (frame ∷ [])
joined_at boxes place origin frame less =
    let at = slice_get-get_or boxes place (box_at origin []) less in
    waits_in boxes place (slice_get boxes place) (waiting_at boxes (Some place) ++ frame ∷ []) [] (frame ∷ []) refl (subst IsSome (sym at) refl) (grown (waiting_at boxes (Some place)) (frame ∷ []))

-- what an origin that has an outbox emitted, if anything, waits in it
pub joined_waiting : (boxes : List Outbox) (origin : Origin) (sent : Option Descriptor) → IsSome (outbox_place boxes origin)
    → Changed (flat_map waiting_in boxes) (flat_map waiting_in (joined boxes origin sent)) [] (option_to_list sent)
unfolding outbox_place
joined_waiting boxes origin None there = unchanged (flat_map waiting_in boxes)
joined_waiting boxes origin (Some frame) there = joined_if boxes origin frame (outbox_place boxes origin) refl there
  where
    joined_if : (boxes : List Outbox) (origin : Origin) (frame : Descriptor) (place : Option ℕ) → outbox_place boxes origin ≡ place → IsSome place
        → Changed (flat_map waiting_in boxes) (flat_map waiting_in (with_waiting_at boxes (waiting_at boxes place ++ frame ∷ []) place)) [] (frame ∷ [])
    joined_if boxes origin frame None is there = absurd cc
    joined_if boxes origin frame (Some place) is there =
        let less = position-Some (λ (box : Outbox). same_origin box.origin origin) boxes place (box_at origin []) is in
        joined_at boxes place origin frame less.0

-- ---- in ports and beyond

pub on_links : (channels channels' : List (List Channel)) (boxes : List Outbox) (ports : List PortView) (strays lost gained : List Descriptor) → Changed (flat_map frames_from channels) (flat_map frames_from channels') lost gained
    → Changed (held channels boxes ports strays) (held channels' boxes ports strays) lost gained
on_links channels channels' boxes ports strays lost gained c = at_front (flat_map frames_from channels) (flat_map frames_from channels') (flat_map waiting_in boxes ++ (flat_map strays_of ports ++ strays)) lost gained c

pub in_outboxes : (channels : List (List Channel)) (boxes boxes' : List Outbox) (ports : List PortView) (strays lost gained : List Descriptor) → Changed (flat_map waiting_in boxes) (flat_map waiting_in boxes') lost gained
    → Changed (held channels boxes ports strays) (held channels boxes' ports strays) lost gained
in_outboxes channels boxes boxes' ports strays lost gained c =
    let rest = flat_map strays_of ports ++ strays in
    at_back (flat_map frames_from channels) (flat_map waiting_in boxes ++ rest) (flat_map waiting_in boxes' ++ rest) lost gained
    (at_front (flat_map waiting_in boxes) (flat_map waiting_in boxes') rest lost gained c)

-- a port keeps a packet as one that it has no case for
pub in_port : (channels : List (List Channel)) (boxes : List Outbox) (ports : List PortView) (i : ℕ) (strays : List Descriptor) (frame : Descriptor) → i < length ports
    → Changed (held channels boxes ports strays) (held channels boxes (set ports i (kept_by (get_or ports i no_port) frame)) strays) [] (frame ∷ [])
in_port channels boxes ports i strays frame there =
    let port = get_or ports i no_port in
    let ports' = set ports i (kept_by port frame) in
    at_back (flat_map frames_from channels) (flat_map waiting_in boxes ++ (flat_map strays_of ports ++ strays)) (flat_map waiting_in boxes ++ (flat_map strays_of ports' ++ strays)) [] (frame ∷ [])
    (at_back (flat_map waiting_in boxes) (flat_map strays_of ports ++ strays) (flat_map strays_of ports' ++ strays) [] (frame ∷ [])
    (at_front (flat_map strays_of ports) (flat_map strays_of ports') strays [] (frame ∷ [])
    (at_one strays_of ports i no_port (kept_by port frame) [] (frame ∷ []) there (grown port.strays (frame ∷ [])))))

-- the host or a function keeps one
pub in_strays : (channels : List (List Channel)) (boxes : List Outbox) (ports : List PortView) (strays : List Descriptor) (frame : Descriptor)
    → Changed (held channels boxes ports strays) (held channels boxes ports (strays ++ frame ∷ [])) [] (frame ∷ [])
in_strays channels boxes ports strays frame =
    at_back (flat_map frames_from channels) (flat_map waiting_in boxes ++ (flat_map strays_of ports ++ strays)) (flat_map waiting_in boxes ++ (flat_map strays_of ports ++ (strays ++ frame ∷ []))) [] (frame ∷ [])
    (at_back (flat_map waiting_in boxes) (flat_map strays_of ports ++ strays) (flat_map strays_of ports ++ (strays ++ frame ∷ [])) [] (frame ∷ [])
    (at_back (flat_map strays_of ports) strays (strays ++ frame ∷ []) [] (frame ∷ []) (grown strays (frame ∷ []))))
