-- The packets of one domain, where a packet of another moves.
use Rattle.std.proofs.Common.{◌≡◌, ℕ, ◌==◌, Bool, true, false, cond, List, [], ◌∷◌, ◌++◌, map, get_or, set, Option, Some, None, refl, sym, ap, ◌∙◌, append-nil}
use Rattle.std.specs.Prelude.{slice_get}
use Rattle.std.proofs.lemmas.List.Elements.{filter-append}
use Rattle.std.proofs.lemmas.Option.{get_or_from_slice_get}
use Rattle.std.proofs.Math.Seq.{map-set_same}
use Rattle.fab_types.specs.declared.origin.Origin.{Origin}
use Rattle.frame_log.specs.Descriptor.{Descriptor}
use Rattle.domains.specs.Agents.{Outbox, joined, outbox_place, waiting_at, waiting_in, waiting_of, with_waiting, with_waiting_at, with_waiting_in}
use Rattle.link.specs.Channels.{Channel}
use Rattle.ordering.proofs.Leaving.{taken_leaves}
use Rattle.lane.specs.Lanes.{Class, class_of, eligible}
use Rattle.topology.specs.declared.nodes.LinkEnd.{LinkEnd}
use Rattle.interconnect.specs.Moves.{channel_at, left_at, no_channel, put_at, with_channel}
use Rattle.fabric_core.specs.Isolation.{OwnOnLink, own, own_on_link}

-- a packet of another domain
abbrev pub IsOther : ℕ → Descriptor → Type 0
IsOther d frame = (frame.domain == d) ≡ false

-- ---- in a queue

unless_own : (is_own : Bool) (frame : Descriptor) (frames : List Descriptor) → is_own ≡ false → cond is_own (frame ∷ frames) frames ≡ frames
unless_own true frame frames other = absurd cc
unless_own false frame frames other = refl

pub own_append : (d : ℕ) (xs ys : List Descriptor) → own d (xs ++ ys) ≡ own d xs ++ own d ys
own_append d xs ys = filter-append (λ (frame : Descriptor). frame.domain == d) xs ys

-- the oldest is of another
pub own_oldest : (d : ℕ) (frame : Descriptor) (frames : List Descriptor) → IsOther d frame → own d (frame ∷ frames) ≡ own d frames
own_oldest d frame frames other = unless_own (frame.domain == d) frame (own d frames) other

-- one of another is put behind them
pub own_put : (d : ℕ) (frames : List Descriptor) (frame : Descriptor) → IsOther d frame → own d (frames ++ frame ∷ []) ≡ own d frames
own_put d frames frame other =
    own_append d frames (frame ∷ []) ∙ (ap (λ (xs : List Descriptor). own d frames ++ xs) (own_oldest d frame [] other) ∙ append-nil (own d frames))

-- one of another leaves them
pub own_left : (d : ℕ) (class : Class) (frames left : List Descriptor) (frame : Descriptor) → eligible class frames ≡ Some (frame, left) → IsOther d frame → own d left ≡ own d frames
own_left d class frames left frame e other =
    let l = taken_leaves class_of class frames frame left e in
    ap (own d) l.is_left
    ∙ (own_append d l.older l.newer
    ∙ (ap (λ (xs : List Descriptor). own d l.older ++ xs) (sym (own_oldest d frame l.newer other))
    ∙ (sym (own_append d l.older (frame ∷ l.newer)) ∙ sym (ap (own d) l.queue))))

-- ---- on links

abbrev pub own_links : ℕ → List (List Channel) → List (List OwnOnLink)
own_links d channels = map (map (own_on_link d)) channels

-- a direction has the same of them
pub links_with : (d : ℕ) (channels : List (List Channel)) (end : LinkEnd) (c : Channel) → own_on_link d c ≡ own_on_link d (channel_at channels end) → own_links d (with_channel channels end c) ≡ own_links d channels
links_with d channels end c same =
    let outputs = get_or channels end.node [] in
    map-set_same (map (own_on_link d)) channels end.node (set outputs end.output c) [] (map-set_same (own_on_link d) outputs end.output c no_channel same)

pub links_put : (d : ℕ) (channels : List (List Channel)) (end : LinkEnd) (frame : Descriptor) → IsOther d frame → own_links d (put_at channels end frame) ≡ own_links d channels
links_put d channels end frame other =
    let c = channel_at channels end in
    links_with d channels end _ (ap (λ (xs : List Descriptor). record { egress = xs; wire = own d c.wire; ingress = own d c.ingress }) (own_put d c.egress frame other))

pub links_left : (d : ℕ) (channels : List (List Channel)) (end : LinkEnd) (class : Class) (left : List Descriptor) (frame : Descriptor) → eligible class (channel_at channels end).ingress ≡ Some (frame, left) → IsOther d frame
    → own_links d (left_at channels end left) ≡ own_links d channels
links_left d channels end class left frame e other =
    let c = channel_at channels end in
    links_with d channels end _ (ap (λ (xs : List Descriptor). record { egress = own d c.egress; wire = own d c.wire; ingress = xs }) (own_left d class c.ingress left frame e other))

-- ---- in outboxes

abbrev pub own_boxes : ℕ → List Outbox → List (List Descriptor)
own_boxes d boxes = map (λ box. own d box.waiting) boxes

boxes_in : (d : ℕ) (boxes : List Outbox) (place : ℕ) (found : Option Outbox) (waiting : List Descriptor) → slice_get boxes place ≡ found → own d waiting ≡ own d (waiting_in found)
    → own_boxes d (with_waiting_in boxes place waiting found) ≡ own_boxes d boxes
boxes_in d boxes place None waiting at same = refl
boxes_in d boxes place (Some box) waiting at same =
    map-set_same (λ (b : Outbox). own d b.waiting) boxes place (record { origin = box.origin; waiting = waiting }) box (same ∙ sym (ap (λ (b : Outbox). own d b.waiting) (get_or_from_slice_get boxes place box box at)))

boxes_at : (d : ℕ) (boxes : List Outbox) (place : Option ℕ) (waiting : List Descriptor) → own d waiting ≡ own d (waiting_at boxes place) → own_boxes d (with_waiting_at boxes waiting place) ≡ own_boxes d boxes
boxes_at d boxes None waiting same = refl
boxes_at d boxes (Some place) waiting same = boxes_in d boxes place (slice_get boxes place) waiting refl same

pub boxes_left : (d : ℕ) (boxes : List Outbox) (origin : Origin) (class : Class) (frame : Descriptor) (left : List Descriptor) → eligible class (waiting_of boxes origin) ≡ Some (frame, left) → IsOther d frame
    → own_boxes d (with_waiting boxes origin left) ≡ own_boxes d boxes
boxes_left d boxes origin class frame left e other = boxes_at d boxes (outbox_place boxes origin) left (own_left d class (waiting_of boxes origin) left frame e other)

pub boxes_joined : (d : ℕ) (boxes : List Outbox) (origin : Origin) (sent : Option Descriptor) → ((frame : Descriptor) → sent ≡ Some frame → IsOther d frame) → own_boxes d (joined boxes origin sent) ≡ own_boxes d boxes
boxes_joined d boxes origin None other = refl
boxes_joined d boxes origin (Some frame) other = boxes_at d boxes (outbox_place boxes origin) _ (own_put d (waiting_of boxes origin) frame (other frame refl))
