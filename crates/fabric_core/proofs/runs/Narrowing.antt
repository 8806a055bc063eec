-- What no event of a fabric changes, and that senders only spend credits and fill no queue over, where none are told.
use Rattle.std.proofs.lemmas.Bool.{false≢true}
use Rattle.std.proofs.Common.{◌≡◌, ◌≢◌, ◌⊎◌, inl, inr, ℕ, ◌≤◌, ◌==◌, Bool, true, false, cond, List, [], ◌∷◌, ◌++◌, map, get_or, set, Option, Some, None, refl, sym, ap, ◌∙◌, subst, arith, eq-eqb}
use Rattle.std.specs.Prelude.{IfSome, option_map, slice_get}
use Rattle.std.proofs.Math.Seq.{map-set_same}
use Rattle.std.proofs.lemmas.Option.{get_or_from_slice_get}
use Rattle.fab_types.specs.declared.class.Class.{Class}
use Rattle.fab_types.specs.declared.class.Class.TheVariants as class
use Rattle.fab_types.specs.declared.origin.Origin.{Origin}
use Rattle.frame_log.specs.Descriptor.{Descriptor}
use Rattle.credit.specs.Kinds.{Kind, cost_of, where_same}
use Rattle.domains.specs.Agents.{Outbox, joined, outbox_place, waiting_of, with_waiting, with_waiting_at, with_waiting_in}
use Rattle.link.specs.Channels.{Channel, count_in, has_room, is_full, deliver, received_of, send, sent_on, spent}
use Rattle.link.proofs.Credits.{at-spent}
use Rattle.link.proofs.Totals.{count_in-total, total-append, total-taken}
use Rattle.lane.specs.Lanes.{class_of, eligible}
use Rattle.topology.specs.declared.nodes.LinkEnd.{LinkEnd}
use Rattle.interconnect.specs.Moves.{channel_at, left_at, no_channel, put_at, with_channel}
use Rattle.interconnect.proofs.Room.{full_left}
use Rattle.lane.proofs.Waiting.{class_of-taken}
use Rattle.fabric_core.specs.Arrivals.{Taken, taken_at, taken_from}
use Rattle.fabric_core.proofs.runs.MirroredLinks.{AtMost}
use Rattle.fabric_core.proofs.runs.Pairwise.{Pairwise, pair_changed, pair_same, pair_then}

-- ---- a direction

pub record Narrows (old new : Channel) : Type 0 where
  pub start : new.start ≡ old.start
  pub left : AtMost new.left old.left
  pub places : (class : Class) → count_in class old.egress ≤ 16 → count_in class new.egress ≤ 16

narrows_same : (c : Channel) → Narrows c c
narrows_same c = record { start = refl; left = λ k. omega arith; places = λ class few. few }

narrows_then : (a b c : Channel) → Narrows a b → Narrows b c → Narrows a c
narrows_then a b c one other = record {
  start = other.start ∙ one.start;
  left = λ k. let first = one.left k in let second = other.left k in omega (arith, first, second);
  places = λ class few. other.places class (one.places class few);
}

-- what leaves makes place
left_few : (class k : Class) (waiting left : List Descriptor) (frame : Descriptor) → eligible class waiting ≡ Some (frame, left) → count_in k waiting ≤ 16 → count_in k left ≤ 16
left_few class k waiting left frame e few =
    let all = total-taken (Kind.Headers k) class waiting left frame e in
    let before = count_in-total k waiting in
    let after = count_in-total k left in
    omega (arith, few, all, before, after)

same_or_none : (a b : Class) → (a ≡ b) ⊎ (where_same a b 1 ≡ 0)
same_or_none class.Posted class.Posted = inl refl
same_or_none class.NonPosted class.NonPosted = inl refl
same_or_none class.Completion class.Completion = inl refl
same_or_none class.Posted class.NonPosted = inr refl
same_or_none class.Posted class.Completion = inr refl
same_or_none class.NonPosted class.Posted = inr refl
same_or_none class.NonPosted class.Completion = inr refl
same_or_none class.Completion class.Posted = inr refl
same_or_none class.Completion class.NonPosted = inr refl

at_most_one : (a b : Class) → where_same a b 1 ≤ 1
at_most_one class.Posted class.Posted = omega arith
at_most_one class.NonPosted class.NonPosted = omega arith
at_most_one class.Completion class.Completion = omega arith
at_most_one class.Posted class.NonPosted = omega arith
at_most_one class.Posted class.Completion = omega arith
at_most_one class.NonPosted class.Posted = omega arith
at_most_one class.NonPosted class.Completion = omega arith
at_most_one class.Completion class.Posted = omega arith
at_most_one class.Completion class.NonPosted = omega arith

not_sixteen : (n : ℕ) → n ≤ 16 → (n == 16) ≡ false → n ≤ 15
not_sixteen n most other = let differs : n ≢ 16 = λ e. false≢true (sym other ∙ eq-eqb n 16 e) in omega (arith, most, differs)

-- one more has a place where its class isn't full
put_few : (k : Class) (waiting : List Descriptor) (frame : Descriptor) → (count_in (class_of frame) waiting == 16) ≡ false → count_in k waiting ≤ 16 → count_in k (waiting ++ frame ∷ []) ≤ 16
put_few k waiting frame free few = by (same_or_none (class_of frame) k)
  where
    by : (class_of frame ≡ k) ⊎ (where_same (class_of frame) k 1 ≡ 0) → count_in k (waiting ++ frame ∷ []) ≤ 16
    by (inr none) =
        let all = total-append (Kind.Headers k) waiting (frame ∷ []) in
        let before = count_in-total k waiting in
        let after = count_in-total k (waiting ++ frame ∷ []) in
        let cost : cost_of frame.head.cost (Kind.Headers k) ≡ 0 = none in
        omega (arith, few, all, before, after, cost)
    by (inl same) =
        let not_full : (count_in k waiting == 16) ≡ false = subst (λ (c : Class). (count_in c waiting == 16) ≡ false) same free in
        let less : count_in k waiting ≤ 15 = not_sixteen (count_in k waiting) few not_full in
        let all = total-append (Kind.Headers k) waiting (frame ∷ []) in
        let before = count_in-total k waiting in
        let after = count_in-total k (waiting ++ frame ∷ []) in
        let cost : cost_of frame.head.cost (Kind.Headers k) ≤ 1 = at_most_one (class_of frame) k in
        omega (arith, less, all, before, after, cost)

-- ---- all directions

abbrev pub NarrowLinks : List (List Channel) → List (List Channel) → Type 0
NarrowLinks old new = Pairwise (Pairwise Narrows) old new

pub links_same : (cs : List (List Channel)) → NarrowLinks cs cs
links_same cs = pair_same (Pairwise Narrows) (pair_same Narrows narrows_same) cs

pub links_then : (a b c : List (List Channel)) → NarrowLinks a b → NarrowLinks b c → NarrowLinks a c
links_then a b c one other = pair_then (Pairwise Narrows) (Pairwise Narrows) (Pairwise Narrows) (pair_then Narrows Narrows Narrows narrows_then) a b c one other

pub narrow_with : (cs : List (List Channel)) (end : LinkEnd) (c : Channel) → Narrows (channel_at cs end) c → NarrowLinks cs (with_channel cs end c)
narrow_with cs end c new =
    pair_changed (Pairwise Narrows) (pair_same Narrows narrows_same) cs end.node (set (get_or cs end.node []) end.output c) []
    (pair_changed Narrows narrows_same (get_or cs end.node []) end.output c no_channel new)

pub narrow_put : (cs : List (List Channel)) (end : LinkEnd) (frame : Descriptor) → is_full (class_of frame) (channel_at cs end) ≡ false → NarrowLinks cs (put_at cs end frame)
narrow_put cs end frame free = narrow_with cs end _ (record { start = refl; left = λ k. omega arith; places = λ k few. put_few k (channel_at cs end).egress frame free few })

narrow_left : (cs : List (List Channel)) (end : LinkEnd) (left : List Descriptor) → NarrowLinks cs (left_at cs end left)
narrow_left cs end left = narrow_with cs end _ (record { start = refl; left = λ k. omega arith; places = λ k few. few })

-- ---- what is taken

-- it is of the class, and senders have the places that they had
pub record TakenNarrowly (cs : List (List Channel)) (class : Class) (t : Taken) : Type 0 where
  pub links : NarrowLinks cs t.channels
  pub places : (end : LinkEnd) (k : Class) → is_full k (channel_at t.channels end) ≡ is_full k (channel_at cs end)
  pub class_is : class_of t.frame ≡ class

taken_if : (cs : List (List Channel)) (class : Class) (end : LinkEnd) (o : Option (Descriptor × List Descriptor)) → eligible class (channel_at cs end).ingress ≡ o → IfSome (option_map (taken_from cs end) o) (TakenNarrowly cs class)
taken_if cs class end None e = tt
taken_if cs class end (Some r) e = record {
  links = narrow_left cs end r.1;
  places = λ other k. full_left cs end other r.1 k;
  class_is = class_of-taken class (channel_at cs end).ingress r.1 r.0 e;
}

pub taken_narrowly : (cs : List (List Channel)) (class : Class) (found : Option LinkEnd) → IfSome (taken_at cs class found) (TakenNarrowly cs class)
taken_narrowly cs class None = tt
taken_narrowly cs class (Some end) = taken_if cs class end (eligible class (channel_at cs end).ingress) refl

-- ---- within a link

sent_narrows : (class : Class) (c : Channel) (o : Option (Descriptor × List Descriptor)) → eligible class c.egress ≡ o → IfSome (sent_on c o) (Narrows c)
sent_narrows class c None e = tt
sent_narrows class c (Some t) e = by (has_room c.left t.0.head.cost)
  where
    sent : Channel
    sent = record { start = c.start; left = spent c.left t.0.head.cost; egress = t.1; wire = c.wire ++ t.0 ∷ []; ingress = c.ingress }

    by : (b : Bool) → IfSome (cond b (Some sent) None) (Narrows c)
    by false = tt
    by true = record {
      start = refl;
      left = λ k. let less = at-spent c.left t.0.head.cost k in omega (arith, less);
      places = λ k few. left_few class k c.egress t.1 t.0 e few;
    }

pub send_narrows : (class : Class) (c : Channel) → IfSome (send class c) (Narrows c)
send_narrows class c = sent_narrows class c (eligible class c.egress) refl

received_narrows : (c : Channel) (wire : List Descriptor) → IfSome (received_of c wire) (Narrows c)
received_narrows c [] = tt
received_narrows c (frame ∷ frames) = record { start = refl; left = λ k. omega arith; places = λ k few. few }

pub receive_narrows : (c : Channel) → IfSome (deliver c) (Narrows c)
receive_narrows c = received_narrows c c.wire

-- ---- outboxes

abbrev pub origin_of : Outbox → Origin
origin_of box = box.origin

origins_in : (boxes : List Outbox) (place : ℕ) (o : Option Outbox) (waiting : List Descriptor) → slice_get boxes place ≡ o → map origin_of (with_waiting_in boxes place waiting o) ≡ map origin_of boxes
origins_in boxes place None waiting e = refl
origins_in boxes place (Some box) waiting e =
    map-set_same origin_of boxes place (record { origin = box.origin; waiting = waiting }) box (sym (ap origin_of (get_or_from_slice_get boxes place box box e)))

origins_at : (boxes : List Outbox) (waiting : List Descriptor) (o : Option ℕ) → map origin_of (with_waiting_at boxes waiting o) ≡ map origin_of boxes
origins_at boxes waiting None = refl
origins_at boxes waiting (Some place) = origins_in boxes place (slice_get boxes place) waiting refl

pub origins_with : (boxes : List Outbox) (origin : Origin) (waiting : List Descriptor) → map origin_of (with_waiting boxes origin waiting) ≡ map origin_of boxes
origins_with boxes origin waiting = origins_at boxes waiting (outbox_place boxes origin)

pub origins_joined : (boxes : List Outbox) (origin : Origin) (sent : Option Descriptor) → map origin_of (joined boxes origin sent) ≡ map origin_of boxes
origins_joined boxes origin None = refl
origins_joined boxes origin (Some frame) = origins_with boxes origin (waiting_of boxes origin ++ frame ∷ [])
