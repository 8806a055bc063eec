-- Lists of lanes of which one is changed.
use Rattle.std.proofs.Common.{◌≡◌, ℕ, ◌<◌, Bool, true, Option, Some, None, List, [], ◌++◌, length, map, set, get_or, sym, ap, ◌∙◌}
use Rattle.std.specs.Prelude.{IfSome}
use Rattle.frame_log.specs.Descriptor.{Descriptor}
use Rattle.std.proofs.lemmas.List.{map-set, get_or-map, get_or-set_same, length-map, set-get_or}
use Rattle.std.proofs.Math.Seq.{map-set_same}
use Rattle.lane.specs.Lanes.{Class, class_of}
use Rattle.port.specs.Blocked.{may_refuse_at}

module _ {O E : Type 0} (sent : O → List E) where
  -- the lane that was put into
  pub put_at : (outs : List O) (i : ℕ) (d o' : O) (fs : List E) → i < length outs → sent o' ≡ sent (get_or outs i d) ++ fs → map sent (set outs i o') ≡ set (map sent outs) i (get_or (map sent outs) i [] ++ fs)
  put_at outs i d o' fs h e =
      map-set sent outs i o' ∙ ap (set (map sent outs) i) (e ∙ ap (λ (x : List E). x ++ fs) (sym (get_or-map sent outs i d [] h)))

-- what a call leaves of a lane, it leaves of all
pub kept_at : {O V : Type 0} (f : O → V) (outs : List O) (i : ℕ) (d o' : O) → f o' ≡ f (get_or outs i d) → map f (set outs i o') ≡ map f outs
kept_at f outs i d o' e = map-set_same f outs i o' d e

-- where one lane counts otherwise, all do
pub counted_at : {O : Type 0} (count : O → ℕ) (outs : List O) (i : ℕ) (d o' : O) → i < length outs → map count (set outs i o') ≡ map count outs → count o' ≡ count (get_or outs i d)
counted_at count outs i d o' h e =
    let left = get_or-set_same (map count outs) i (count o') 0 (rw (length-map outs count) h) in
    sym left ∙ (ap (λ (l : List ℕ). get_or l i 0) (sym (map-set count outs i o') ∙ e) ∙ get_or-map count outs i d 0 h)

module _ {O : Type 0} (may_refuse : O → Class → Bool) where
  -- what one lane of several may refuse
  pub refused_at : (outs : List O) (i : ℕ) (d : O) → i < length outs → may_refuse_at (map may_refuse outs) i ≡ may_refuse (get_or outs i d)
  refused_at outs i d h = get_or-map may_refuse outs i d (λ _. true) h

  -- what is kept is what one lane of several may refuse
  pub refused_kept : (outs : List O) (i : ℕ) (d : O) → i < length outs → (kept : Option Descriptor) → IfSome kept (λ answer. may_refuse (get_or outs i d) (class_of answer) ≡ true)
      → IfSome kept (λ answer. may_refuse_at (map may_refuse outs) i (class_of answer) ≡ true)
  refused_kept outs i d h None e = tt
  refused_kept outs i d h (Some answer) e = ap (λ (may : Class → Bool). may (class_of answer)) (refused_at outs i d h) ∙ e

  -- a lane that may refuse what it might before
  pub refused_again : (outs : List O) (i : ℕ) (d o' : O) → i < length outs → ((c : Class) → may_refuse o' c ≡ may_refuse (get_or outs i d) c)
      → (c : Class) → may_refuse_at (map may_refuse (set outs i o')) i c ≡ may_refuse_at (map may_refuse outs) i c
  refused_again outs i d o' h same c =
      let left = get_or-set_same (map may_refuse outs) i (may_refuse o') (λ _. true) (rw (length-map outs may_refuse) h) in
      ap (λ (l : List (Class → Bool)). get_or l i (λ _. true) c) (map-set may_refuse outs i o')
      ∙ (ap (λ (may : Class → Bool). may c) left ∙ (same c ∙ sym (ap (λ (may : Class → Bool). may c) (refused_at outs i d h))))

-- a lane that a call leaves as it was, it leaves among all
pub left_at : {O : Type 0} (outs : List O) (i : ℕ) (d o' : O) → o' ≡ get_or outs i d → set outs i o' ≡ outs
left_at outs i d o' e = ap (set outs i) e ∙ set-get_or outs i d
