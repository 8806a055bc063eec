-- Sound packets in outboxes, where what one of them has changes.
use Rattle.std.proofs.Common.{◌≡◌, ◌⊎◌, inl, inr, ℕ, zero, suc, List, [], ◌∷◌, ◌++◌, set, Option, Some, None, refl, sym, ap, ◌∙◌, subst}
use Rattle.std.specs.Prelude.{All, slice_get}
use Rattle.std.proofs.lemmas.List.Elements.{All-append, All-cons, All-head, All-nil}
use Rattle.std.proofs.lemmas.List.Quantifiers.{position-Some}
use Rattle.std.proofs.lemmas.Option.{get_or_from_slice_get}
use Rattle.fab_types.specs.declared.origin.Origin.{Origin}
use Rattle.frame_log.specs.Descriptor.{Descriptor}
use Rattle.fab_types.specs.Origins.{same_origin}
use Rattle.fab_types.proofs.Origins.{one_origin}
use Rattle.platform.specs.Platform.{Platform}
use Rattle.domains.specs.Agents.{Outbox, joined, outbox_place, waiting_at, waiting_in, waiting_of, with_waiting, with_waiting_at, with_waiting_in}
use Rattle.lane.specs.Lanes.{Class, class_of, eligible}
use Rattle.guarded_routes.specs.Sound.{IsSound}
use Rattle.fabric_core.specs.Events.{link_of}
use Rattle.fabric_core.proofs.invariant.Changing.{taken_out}
use Rattle.fabric_core.proofs.invariant.Settling.{origins_stay}

-- ---- one outbox changes, and no other

box_is : (boxes : List Outbox) (origin : Origin) (place : ℕ) (box : Outbox) → outbox_place boxes origin ≡ Some place → slice_get boxes place ≡ Some box → box.origin ≡ origin
unfolding outbox_place
box_is boxes origin place box found at =
    let there = position-Some (λ (b : Outbox). same_origin b.origin origin) boxes place box found in
    one_origin box.origin origin (ap (λ (b : Outbox). same_origin b.origin origin) (sym (get_or_from_slice_get boxes place box box at)) ∙ there.1)

either_there : {X : Type 0} (xs : List X) (i j : ℕ) (x y : X) → slice_get xs i ≡ Some x → (slice_get (set xs i y) j ≡ slice_get xs j) ⊎ ((j ≡ i) × (slice_get (set xs i y) j ≡ Some y))
either_there [] i j x y at = inl refl
either_there (z ∷ xs) zero zero x y at = inr (refl, refl)
either_there (z ∷ xs) zero (suc j) x y at = inl refl
either_there (z ∷ xs) (suc i) zero x y at = inl refl
either_there (z ∷ xs) (suc i) (suc j) x y at = again (either_there xs i j x y at)
  where
    again : (slice_get (set xs i y) j ≡ slice_get xs j) ⊎ ((j ≡ i) × (slice_get (set xs i y) j ≡ Some y)) → (slice_get (set xs i y) j ≡ slice_get xs j) ⊎ ((suc j ≡ suc i) × (slice_get (set xs i y) j ≡ Some y))
    again (inl same) = inl same
    again (inr h) = inr (ap suc h.0, h.1)

-- what waits at the place of an origin is what did, or the place is that of the other origin
abbrev Either : List Outbox → List Outbox → Origin → Origin → Option ℕ → List Descriptor → Type 0
Either boxes boxes' origin other found waiting = (waiting_at boxes' found ≡ waiting_at boxes found) ⊎ ((other ≡ origin) × (waiting_at boxes' found ≡ waiting))

in_box : (boxes : List Outbox) (origin other : Origin) (i j : ℕ) (box : Outbox) (waiting : List Descriptor) → outbox_place boxes origin ≡ Some i → slice_get boxes i ≡ Some box → outbox_place boxes other ≡ Some j
    → Either boxes (set boxes i (record { origin = box.origin; waiting = waiting })) origin other (Some j) waiting
in_box boxes origin other i j box waiting here at there = by (either_there boxes i j box (record { origin = box.origin; waiting = waiting }) at)
  where
    by : (slice_get (set boxes i (record { origin = box.origin; waiting = waiting })) j ≡ slice_get boxes j) ⊎ ((j ≡ i) × (slice_get (set boxes i (record { origin = box.origin; waiting = waiting })) j ≡ Some (record { origin = box.origin; waiting = waiting })))
        → Either boxes (set boxes i (record { origin = box.origin; waiting = waiting })) origin other (Some j) waiting
    by (inl same) = inl (ap waiting_in same)
    by (inr h) =
        let at_j : slice_get boxes j ≡ Some box = ap (slice_get boxes) h.0 ∙ at in
        inr (sym (box_is boxes other j box there at_j) ∙ box_is boxes origin i box here at, ap waiting_in h.1)

at_found : (boxes : List Outbox) (origin other : Origin) (i : ℕ) (box : Option Outbox) (found : Option ℕ) (waiting : List Descriptor) → outbox_place boxes origin ≡ Some i → slice_get boxes i ≡ box → outbox_place boxes other ≡ found
    → Either boxes (with_waiting_in boxes i waiting box) origin other found waiting
at_found boxes origin other i None found waiting here at there = inl refl
at_found boxes origin other i (Some box) None waiting here at there = inl refl
at_found boxes origin other i (Some box) (Some j) waiting here at there = in_box boxes origin other i j box waiting here at there

at_place : (boxes : List Outbox) (origin other : Origin) (place found : Option ℕ) (waiting : List Descriptor) → outbox_place boxes origin ≡ place → outbox_place boxes other ≡ found
    → Either boxes (with_waiting_at boxes waiting place) origin other found waiting
at_place boxes origin other None found waiting here there = inl refl
at_place boxes origin other (Some i) found waiting here there = at_found boxes origin other i (slice_get boxes i) found waiting here refl there

pub either_waiting : (boxes : List Outbox) (origin other : Origin) (waiting : List Descriptor)
    → (waiting_of (with_waiting boxes origin waiting) other ≡ waiting_of boxes other) ⊎ ((other ≡ origin) × (waiting_of (with_waiting boxes origin waiting) other ≡ waiting))
either_waiting boxes origin other waiting =
    subst (λ (o : Option ℕ). (waiting_at (with_waiting boxes origin waiting) o ≡ waiting_of boxes other) ⊎ ((other ≡ origin) × (waiting_at (with_waiting boxes origin waiting) o ≡ waiting)))
    (sym (origins_stay boxes (outbox_place boxes origin) waiting other))
    (at_place boxes origin other (outbox_place boxes origin) (outbox_place boxes other) waiting refl refl)

module _ (platform : Platform) where
  -- what waits of each origin is sound on the link that it enters
  abbrev pub SoundIn : List Outbox → Type 0
  SoundIn boxes = (origin : Origin) → All (IsSound platform (link_of origin)) (waiting_of boxes origin)

  sound_waiting : (boxes : List Outbox) (origin : Origin) (waiting : List Descriptor) → SoundIn boxes → All (IsSound platform (link_of origin)) waiting → SoundIn (with_waiting boxes origin waiting)
  sound_waiting boxes origin waiting sound new other = by (either_waiting boxes origin other waiting)
    where
      by : (waiting_of (with_waiting boxes origin waiting) other ≡ waiting_of boxes other) ⊎ ((other ≡ origin) × (waiting_of (with_waiting boxes origin waiting) other ≡ waiting))
          → All (IsSound platform (link_of other)) (waiting_of (with_waiting boxes origin waiting) other)
      by (inl same) = subst (All (IsSound platform (link_of other))) (sym same) (sound other)
      by (inr h) = subst (All (IsSound platform (link_of other))) (sym h.1) (subst (λ (o : Origin). All (IsSound platform (link_of o)) waiting) (sym h.0) new)

  -- what an origin emitted, if anything, joins what waits of it
  pub sound_joined : (boxes : List Outbox) (origin : Origin) (sent : Option Descriptor) → SoundIn boxes → ((frame : Descriptor) → sent ≡ Some frame → IsSound platform (link_of origin) frame) → SoundIn (joined boxes origin sent)
  sound_joined boxes origin None sound new = sound
  sound_joined boxes origin (Some frame) sound new =
      let P = IsSound platform (link_of origin) in
      sound_waiting boxes origin (waiting_of boxes origin ++ frame ∷ []) sound (All-append P (waiting_of boxes origin) (frame ∷ []) (sound origin) (All-cons P frame [] (new frame refl) (All-nil P)))

  -- what is left of an outbox, and what was taken
  pub sound_rest : (boxes : List Outbox) (origin : Origin) (class : Class) (frame : Descriptor) (rest : List Descriptor) → SoundIn boxes → eligible class (waiting_of boxes origin) ≡ Some (frame, rest)
      → SoundIn (with_waiting boxes origin rest) × IsSound platform (link_of origin) frame
  sound_rest boxes origin class frame rest sound e =
      let P = IsSound platform (link_of origin) in
      let changed = taken_out class_of class (waiting_of boxes origin) rest frame e in
      (sound_waiting boxes origin rest sound (changed.left P (sound origin) (All-nil P)), All-head P frame [] (changed.found P (sound origin)))
