-- What waits of an origin, as the outboxes have it and as a clause on agents sees it.
use Rattle.std.proofs.Common.{◌≡◌, ◌⊎◌, inl, inr, ℕ, List, [], ◌∷◌, ◌++◌, map, Option, Some, None, refl, sym, ap, ◌∙◌, slice_get, slice_set}
use Rattle.std.specs.Prelude.{MatchOption, option_map}
use Rattle.std.proofs.lemmas.List.{map-append}
use Rattle.std.proofs.lemmas.Option.{same_Some}
use Rattle.fab_types.specs.declared.origin.Origin.{Origin}
use Rattle.frame_log.specs.Descriptor.{Descriptor}
use Rattle.fab_types.specs.Origins.{same_origin}
use Rattle.lane.specs.Lanes.{Class, class_of, eligible}
use Rattle.lane.specs.Queues.{frames_of}
use Rattle.domain.specs.Domains.{DomainView}
use Rattle.outboxes.specs.Outboxes.{BoxView, box_at, box_of, box_place, changed, changed_at, changed_in, queue_in, queue_of, waiting_in as waiting_in_box, with_put, with_queue}
use Rattle.outboxes.specs.Outboxes as outboxes
use Rattle.domains.proofs.Lists.{get_map, map_set, position_map}
use Rattle.domains.specs.Agents.{AreFound, Outbox, joined, outbox_place, taken_from, waiting_at, waiting_in, waiting_of, with_waiting, with_waiting_at, with_waiting_in}
use Rattle.domains.specs.AgentsKept.{outbox_of, seen}

pub same_place : (boxes : List BoxView) (origin : Origin) → outbox_place (map outbox_of boxes) origin ≡ box_place boxes origin
unfolding outbox_place box_place
same_place boxes origin = position_map (λ (o : Outbox). same_origin o.origin origin) outbox_of boxes

waits_in : (o : Option BoxView) → waiting_in (option_map outbox_of o) ≡ waiting_in_box o
waits_in None = refl
waits_in (Some box) = refl

waits_at : (boxes : List BoxView) (o : Option ℕ) → waiting_at (map outbox_of boxes) o ≡ waiting_in_box (box_at boxes o)
waits_at boxes None = refl
waits_at boxes (Some i) = ap waiting_in (get_map outbox_of boxes i) ∙ waits_in (slice_get boxes i)

pub waits : (boxes : List BoxView) (origin : Origin) → waiting_of (map outbox_of boxes) origin ≡ outboxes.waiting_of boxes origin
waits boxes origin = ap (waiting_at (map outbox_of boxes)) (same_place boxes origin) ∙ waits_at boxes (box_place boxes origin)

-- ---- one box is changed

abbrev pub outbox : Origin → List Descriptor → Outbox
outbox origin ws = record { origin = origin; waiting = ws }

changed_one : (change : BoxView → BoxView) (boxes : List BoxView) (ws : List Descriptor) (i : ℕ) (o : Option BoxView) → slice_get boxes i ≡ o → ((b : BoxView) → o ≡ Some b → outbox_of (change b) ≡ outbox b.origin ws)
    → map outbox_of (changed_in change boxes i o) ≡ with_waiting_in (map outbox_of boxes) i ws (option_map outbox_of o)
changed_one change boxes ws i None there is = refl
changed_one change boxes ws i (Some b) there is = map_set outbox_of boxes i (change b) ∙ ap (slice_set (map outbox_of boxes) i) (is b refl)

changed_seen_at : (change : BoxView → BoxView) (boxes : List BoxView) (ws : List Descriptor) (o : Option ℕ) → ((b : BoxView) → box_at boxes o ≡ Some b → outbox_of (change b) ≡ outbox b.origin ws)
    → map outbox_of (changed_at change boxes o) ≡ with_waiting_at (map outbox_of boxes) ws o
changed_seen_at change boxes ws None is = refl
changed_seen_at change boxes ws (Some i) is =
    changed_one change boxes ws i (slice_get boxes i) refl is ∙ ap (with_waiting_in (map outbox_of boxes) i ws) (sym (get_map outbox_of boxes i))

-- where this is what the changed box has waiting, it is what waits of the origin
pub changed_seen : (change : BoxView → BoxView) (boxes : List BoxView) (origin : Origin) (ws : List Descriptor) → ((b : BoxView) → box_of boxes origin ≡ Some b → outbox_of (change b) ≡ outbox b.origin ws)
    → map outbox_of (changed change boxes origin) ≡ with_waiting (map outbox_of boxes) origin ws
changed_seen change boxes origin ws is =
    changed_seen_at change boxes ws (box_place boxes origin) is ∙ ap (with_waiting_at (map outbox_of boxes) ws) (sym (same_place boxes origin))

-- ---- a packet is put

pub put_seen : (boxes : List BoxView) (origin : Origin) (frame : Descriptor) → map outbox_of (changed (with_put frame) boxes origin) ≡ joined (map outbox_of boxes) origin (Some frame)
put_seen boxes origin frame = changed_seen (with_put frame) boxes origin (waiting_of (map outbox_of boxes) origin ++ frame ∷ []) there
  where
    there : (b : BoxView) → box_of boxes origin ≡ Some b → outbox_of (with_put frame b) ≡ outbox b.origin (waiting_of (map outbox_of boxes) origin ++ frame ∷ [])
    there b is =
        let had : waiting_of (map outbox_of boxes) origin ≡ frames_of b.queue.waiting = waits boxes origin ∙ ap waiting_in_box is in
        ap (outbox b.origin) (map-append (λ (w : Class × Descriptor). w.1) b.queue.waiting ((class_of frame, frame) ∷ []) ∙ ap (λ (ws : List Descriptor). ws ++ frame ∷ []) (sym had))

-- ---- a packet is taken

queue_waits : (o : Option BoxView) → frames_of (queue_in o).waiting ≡ waiting_in_box o
queue_waits None = refl
queue_waits (Some box) = refl

pub taken_seen : (boxes new : List BoxView) (origin : Origin) → new ≡ changed (with_queue (queue_of new origin)) boxes origin → map outbox_of new ≡ with_waiting (map outbox_of boxes) origin (outboxes.waiting_of new origin)
taken_seen boxes new origin is =
    ap (map outbox_of) is ∙ changed_seen (with_queue (queue_of new origin)) boxes origin (outboxes.waiting_of new origin) (λ b there. ap (outbox b.origin) (queue_waits (box_of new origin)))

-- what an outbox says of a take, said of the agents
abbrev pub TookBox : Class → Origin → List BoxView → List BoxView → Option Descriptor → Type 0
TookBox class origin old new result =
    MatchOption result ((eligible class (outboxes.waiting_of old origin) ≡ None) × (new ≡ old)) (λ frame. eligible class (outboxes.waiting_of old origin) ≡ Some (frame, outboxes.waiting_of new origin))

pub taken : (class : Class) (origin : Origin) (ds : List DomainView) (old new : List BoxView) (result : Option Descriptor) → TookBox class origin old new result → new ≡ changed (with_queue (queue_of new origin)) old origin
    → MatchOption result ((eligible class (waiting_of (seen ds old).outboxes origin) ≡ None) × (seen ds new ≡ seen ds old))
    (λ frame. (waiting : List Descriptor) × (eligible class (waiting_of (seen ds old).outboxes origin) ≡ Some (frame, waiting)) × (seen ds new ≡ taken_from (seen ds old) origin waiting))
taken class origin ds old new None t kept = (ap (eligible class) (waits old origin) ∙ t.0, ap (seen ds) t.1)
taken class origin ds old new (Some frame) t kept =
    (outboxes.waiting_of new origin, ap (eligible class) (waits old origin) ∙ t, ap (λ (os : List Outbox). record { domains = ds; outboxes = os }) (taken_seen old new origin kept))

-- ---- whose outboxes they are

pub origins_seen : (boxes : List BoxView) → map (λ box. box.origin) (map outbox_of boxes) ≡ map (λ box. box.origin) boxes
origins_seen [] = refl
origins_seen (box ∷ boxes) = ap (λ (origins : List Origin). box.origin ∷ origins) (origins_seen boxes)

module _ (boxes : List BoxView) (found : outboxes.AreFound boxes) where
  found_of : (i : ℕ) (box : Outbox) (o : Option BoxView) → slice_get boxes i ≡ o → option_map outbox_of o ≡ Some box → (box.waiting ≡ []) ⊎ (outbox_place (map outbox_of boxes) box.origin ≡ Some i)
  found_of i box None at is = absurd cc
  found_of i box (Some b) at is =
      let same : outbox_of b ≡ box = same_Some (outbox_of b) box is in
      elim (found i b at) [
        | inl none ↦ inl (ap (λ (x : Outbox). x.waiting) (sym same) ∙ none)
        | inr place ↦ inr (ap (λ (x : Outbox). outbox_place (map outbox_of boxes) x.origin) (sym same) ∙ (same_place boxes b.origin ∙ place))
      ]

  pub found_seen : AreFound (map outbox_of boxes)
  found_seen i box there = found_of i box (slice_get boxes i) refl (sym (get_map outbox_of boxes i) ∙ there)
