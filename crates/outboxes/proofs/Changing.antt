-- What one box says of a call on it, said of the list that it stands in.
use Rattle.std.proofs.Common.{◌≡◌, ◌≢◌, ℕ, zero, suc, ◌<◌, Bool, true, false, cond, List, [], ◌∷◌, length, get_or, set, Option, Some, None, refl, sym, ap, ◌∙◌, length-set, slice_get}
use Rattle.std.specs.Prelude.{Result, Ok, Err, MatchOption, OnErr, OnOk, nat_lt, option_map}
use Rattle.std.specs.List.{position_or_len}
use Rattle.std.proofs.lemmas.List.{get_or-set_same, set-get_or}
use Rattle.std.proofs.lemmas.List.Folds.{position_or_len-set}
use Rattle.std.proofs.lemmas.List.Quantifiers.{position-Some}
use Rattle.std.proofs.lemmas.Option.{get_or_from_slice_get, slice_get-get_or, slice_get_within}
use Rattle.fab_types.specs.declared.origin.Origin.{Origin}
use Rattle.frame_log.specs.Descriptor.{Descriptor}
use Rattle.fab_types.specs.Origins.{same_origin}
use Rattle.fab_types.proofs.Origins.{one_origin}
use Rattle.lane.specs.Lanes.{Class, eligible}
use Rattle.outboxes.specs.Outboxes.{BoxView, box_at, box_of, box_place, changed, changed_at, changed_in, queue_in, waiting, waiting_in, with_more, with_queue}

-- ---- the box at a place

pub there : (boxes : List BoxView) (i : ℕ) (read : BoxView) → i < length boxes → slice_get boxes i ≡ Some (get_or boxes i read)
there boxes i read within = slice_get-get_or boxes i read within

pub set_there : (boxes : List BoxView) (i : ℕ) (new : BoxView) → i < length boxes → slice_get (set boxes i new) i ≡ Some new
set_there boxes i new within =
    let inside : i < length (set boxes i new) = rw (length-set boxes i new) within in
    slice_get-get_or (set boxes i new) i new inside ∙ ap Some (get_or-set_same boxes i new new within)

-- a box that stays its origin's is found where it was
pub same_place : (boxes : List BoxView) (i : ℕ) (read new : BoxView) → new.origin ≡ (get_or boxes i read).origin → (origin : Origin) → box_place (set boxes i new) origin ≡ box_place boxes origin
unfolding box_place
same_place boxes i read new same origin =
    let p : BoxView → Bool = λ b. same_origin b.origin origin in
    let first : position_or_len p (set boxes i new) ≡ position_or_len p boxes = position_or_len-set p boxes i new read (ap (λ (o : Origin). same_origin o origin) same) in
    ap (λ (n : ℕ). cond (nat_lt (position_or_len p (set boxes i new)) n) (Some (position_or_len p (set boxes i new))) None) (length-set boxes i new)
    ∙ ap (λ (n : ℕ). cond (nat_lt n (length boxes)) (Some n) None) first

pub more_keeps_origin : {T E : Type 0} (n : ℕ) (old new : BoxView) (r : Result T E) → OnOk r (new ≡ with_more n old) → OnErr r (new ≡ old) → new.origin ≡ old.origin
more_keeps_origin n old new (Ok x) ok err = ap (λ (b : BoxView). b.origin) ok
more_keeps_origin n old new (Err x) ok err = ap (λ (b : BoxView). b.origin) err

abbrev pub TookFrom : Class → BoxView → BoxView → Option Descriptor → Type 0
TookFrom class old new result = MatchOption result ((eligible class (waiting old) ≡ None) × (new ≡ old)) (λ frame. eligible class (waiting old) ≡ Some (frame, waiting new))

abbrev TookAt : Class → List BoxView → List BoxView → ℕ → Option Descriptor → Type 0
TookAt class old new i result = MatchOption result ((eligible class (waiting_in (slice_get old i)) ≡ None) × (new ≡ old)) (λ frame. eligible class (waiting_in (slice_get old i)) ≡ Some (frame, waiting_in (slice_get new i)))

pub took_at : (boxes : List BoxView) (i : ℕ) (read new : BoxView) (class : Class) (result : Option Descriptor) → i < length boxes → TookFrom class (get_or boxes i read) new result → TookAt class boxes (set boxes i new) i result
took_at boxes i read new class None within t = (rw (there boxes i read within) t.0, ap (set boxes i) t.1 ∙ set-get_or boxes i read)
took_at boxes i read new class (Some frame) within t = rw (there boxes i read within, set_there boxes i new within) t

-- the box at a place is another one
pub set_at : (boxes : List BoxView) (i : ℕ) (read new : BoxView) (change : BoxView → BoxView) → i < length boxes → new ≡ change (get_or boxes i read) → set boxes i new ≡ changed_at change boxes (Some i)
set_at boxes i read new change within is = ap (set boxes i) is ∙ sym (ap (changed_in change boxes i) (there boxes i read within))

pub kept_at : (boxes : List BoxView) (i : ℕ) (read new : BoxView) → i < length boxes → new ≡ with_queue new.queue (get_or boxes i read)
    → set boxes i new ≡ changed_at (with_queue (queue_in (slice_get (set boxes i new) i))) boxes (Some i)
kept_at boxes i read new within is =
    set_at boxes i read new (with_queue new.queue) within is
    ∙ ap (λ (o : Option BoxView). changed_at (with_queue (queue_in o)) boxes (Some i)) (sym (set_there boxes i new within))

-- ---- the box of another origin

pub get_other : (boxes : List BoxView) (i j : ℕ) (new : BoxView) → j ≢ i → slice_get (set boxes i new) j ≡ slice_get boxes j
get_other [] i j new apart = refl
get_other (b ∷ boxes) zero zero new apart = absurd (apart refl)
get_other (b ∷ boxes) zero (suc j) new apart = refl
get_other (b ∷ boxes) (suc i) zero new apart = refl
get_other (b ∷ boxes) (suc i) (suc j) new apart = get_other boxes i j new (λ e. apart (ap suc e))

pub found_is : (boxes : List BoxView) (origin : Origin) (i : ℕ) (d : BoxView) → box_place boxes origin ≡ Some i → same_origin (get_or boxes i d).origin origin ≡ true
unfolding box_place
found_is boxes origin i d e = (position-Some (λ (b : BoxView). same_origin b.origin origin) boxes i d e).1

places_apart : (boxes : List BoxView) (origin other : Origin) (i j : ℕ) (d : BoxView) → box_place boxes origin ≡ Some i → box_place boxes other ≡ Some j → same_origin other origin ≡ false → j ≢ i
places_apart boxes origin other i j d one two apart same =
    let at_j : (get_or boxes j d).origin ≡ other = one_origin _ _ (found_is boxes other j d two) in
    let both : same_origin (get_or boxes j d).origin origin ≡ true = ap (λ (k : ℕ). same_origin (get_or boxes k d).origin origin) same ∙ found_is boxes origin i d one in
    let alike : same_origin other origin ≡ true = ap (λ (o : Origin). same_origin o origin) (sym at_j) ∙ both in
    absurd cc

other_set : (boxes : List BoxView) (i : ℕ) (read new : BoxView) (origin other : Origin) → box_place boxes origin ≡ Some i → new.origin ≡ (get_or boxes i read).origin → same_origin other origin ≡ false
    → box_of (set boxes i new) other ≡ box_of boxes other
other_set boxes i read new origin other at same apart = ap (box_at (set boxes i new)) (same_place boxes i read new same other) ∙ go (box_place boxes other) refl
  where
    go : (o : Option ℕ) → box_place boxes other ≡ o → box_at (set boxes i new) o ≡ box_at boxes o
    go None e = refl
    go (Some j) e = get_other boxes i j new (places_apart boxes origin other i j read at e apart)

-- where one box is changed, but not whose it is, no other box is
pub others_stay : (change : BoxView → BoxView) (boxes : List BoxView) (origin : Origin) → ((b : BoxView) → (change b).origin ≡ b.origin)
    → (other : Origin) → same_origin other origin ≡ false → box_of (changed change boxes origin) other ≡ box_of boxes other
others_stay change boxes origin keeps other apart = go (box_place boxes origin) refl
  where
    got : (i : ℕ) → box_place boxes origin ≡ Some i → (o : Option BoxView) → slice_get boxes i ≡ o → box_of (changed_in change boxes i o) other ≡ box_of boxes other
    got i e None at = refl
    got i e (Some b) at = other_set boxes i b (change b) origin other e (keeps b ∙ ap (λ (x : BoxView). x.origin) (sym (get_or_from_slice_get boxes i b b at))) apart

    go : (o : Option ℕ) → box_place boxes origin ≡ o → box_of (changed_at change boxes o) other ≡ box_of boxes other
    go None e = refl
    go (Some i) e = got i e (slice_get boxes i) refl

-- and that box is the changed one
pub changed_there : (change : BoxView → BoxView) (boxes : List BoxView) (origin : Origin) → ((b : BoxView) → (change b).origin ≡ b.origin)
    → box_of (changed change boxes origin) origin ≡ option_map change (box_of boxes origin)
changed_there change boxes origin keeps = go (box_place boxes origin) refl
  where
    got : (i : ℕ) → box_place boxes origin ≡ Some i → (o : Option BoxView) → slice_get boxes i ≡ o → box_of (changed_in change boxes i o) origin ≡ option_map change o
    got i e None at = ap (box_at boxes) e ∙ at
    got i e (Some b) at =
        ap (box_at (set boxes i (change b))) (same_place boxes i b (change b) (keeps b ∙ ap (λ (x : BoxView). x.origin) (sym (get_or_from_slice_get boxes i b b at))) origin ∙ e)
        ∙ set_there boxes i (change b) (slice_get_within boxes i b at)

    go : (o : Option ℕ) → box_place boxes origin ≡ o → box_of (changed_at change boxes o) origin ≡ option_map change (box_at boxes o)
    go None e = ap (box_at boxes) e
    go (Some i) e = got i e (slice_get boxes i) refl
