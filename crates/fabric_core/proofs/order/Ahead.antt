-- A packet that stands in front of another stays there while neither is passed by what may not pass it.
use Rattle.std.proofs.Common.{◌≡◌, Bool, true, false, ◌&&◌, ◌||◌, cond, not, List, [], ◌∷◌, ◌++◌, refl, sym, ap, ◌∙◌}
use Rattle.std.specs.Prelude.{All, filter}
use Rattle.std.proofs.lemmas.List.Elements.{All-head, All-tail}
use Rattle.frame_log.specs.Descriptor.{Descriptor}
use Rattle.fabric_core.specs.Trails.{is_ahead}

-- ---- at one packet

behind_one : (p q a b : Bool) → (a ≡ true → b ≡ true) → p || (not q && a) ≡ true → p || (not q && b) ≡ true
behind_one true q a b goes e = refl
behind_one false true a b goes e = absurd cc
behind_one false false a b goes e = goes e

without_one : (p q a : Bool) → p ≡ false → p || (not q && a) ≡ true → (q ≡ false) × (a ≡ true)
without_one true q a other e = absurd cc
without_one false true a other e = absurd cc
without_one false false a other e = (refl, e)

module _ (p q : Descriptor → Bool) where
  abbrev Is : List Descriptor → Type 0
  Is xs = is_ahead p q xs ≡ true

  -- ---- others join and leave

  pub ahead_behind : (xs ys zs : List Descriptor) → (Is ys → Is zs) → Is (xs ++ ys) → Is (xs ++ zs)
  ahead_behind [] ys zs goes is = goes is
  ahead_behind (x ∷ xs) ys zs goes is = behind_one (p x) (q x) (is_ahead p q (xs ++ ys)) (is_ahead p q (xs ++ zs)) (ahead_behind xs ys zs goes) is

  -- what stands behind all is of no matter
  pub ahead_more : (xs ys : List Descriptor) → Is xs → Is (xs ++ ys)
  ahead_more [] ys is = absurd cc
  ahead_more (x ∷ xs) ys is = behind_one (p x) (q x) (is_ahead p q xs) (is_ahead p q (xs ++ ys)) (ahead_more xs ys) is

  -- one that isn't of the first kind leaves
  pub ahead_without : (xs ys : List Descriptor) (y : Descriptor) → p y ≡ false → Is (xs ++ y ∷ ys) → Is (xs ++ ys)
  ahead_without xs ys y other is = ahead_behind xs (y ∷ ys) ys (λ e. (without_one (p y) (q y) (is_ahead p q ys) other e).1) is

  -- ---- one passes older ones

  -- nothing of the first kind is there, so one of the second isn't behind it
  pub none_ahead : (older ys : List Descriptor) (y : Descriptor) → All (λ (x : Descriptor). p x ≡ false) older → p y ≡ false → q y ≡ true → Is (older ++ y ∷ ys) → ⊥
  none_ahead [] ys y none other second is = let e = (without_one (p y) (q y) (is_ahead p q ys) other is).0 in absurd cc
  none_ahead (x ∷ xs) ys y none other second is =
      none_ahead xs ys y (All-tail (λ (z : Descriptor). p z ≡ false) x xs none) other second
      (without_one (p x) (q x) (is_ahead p q (xs ++ y ∷ ys)) (All-head (λ (z : Descriptor). p z ≡ false) x xs none) is).1

  passes_by : (older ys : List Descriptor) (y : Descriptor) (first second : Bool) → p y ≡ first → q y ≡ second → (q y ≡ true → All (λ (x : Descriptor). p x ≡ false) older) → Is (older ++ y ∷ ys)
      → first || (not second && is_ahead p q (older ++ ys)) ≡ true
  passes_by older ys y true second is_first is_second none is = refl
  passes_by older ys y false true is_first is_second none is = absurd (none_ahead older ys y (none is_second) is_first is_second is)
  passes_by older ys y false false is_first is_second none is = ahead_without older ys y is_first is

  pub ahead_passed : (xs older ys : List Descriptor) (y : Descriptor) → (q y ≡ true → All (λ (x : Descriptor). p x ≡ false) older) → Is (xs ++ (older ++ y ∷ ys)) → Is (xs ++ (y ∷ (older ++ ys)))
  ahead_passed xs older ys y none is = ahead_behind xs (older ++ y ∷ ys) (y ∷ (older ++ ys)) (passes_by older ys y (p y) (q y) refl refl none) is

  -- none of the first kind stands among the front ones
  pub ahead_after : (xs ys : List Descriptor) → All (λ (x : Descriptor). p x ≡ false) xs → Is (xs ++ ys) → Is ys
  ahead_after [] ys none is = is
  ahead_after (x ∷ xs) ys none is =
      ahead_after xs ys (All-tail (λ (z : Descriptor). p z ≡ false) x xs none)
      (without_one (p x) (q x) (is_ahead p q (xs ++ ys)) (All-head (λ (z : Descriptor). p z ≡ false) x xs none) is).1

  -- ---- only those of the two kinds matter

  abbrev pub either : Descriptor → Bool
  either x = p x || q x

  kept_one : (x : Descriptor) (xs : List Descriptor) (first second : Bool) → p x ≡ first → q x ≡ second → is_ahead p q xs ≡ is_ahead p q (filter either xs)
      → first || (not second && is_ahead p q xs) ≡ is_ahead p q (cond (first || second) (x ∷ filter either xs) (filter either xs))
  kept_one x xs true second is_first is_second same = ap (λ (b : Bool). b || (not (q x) && is_ahead p q (filter either xs))) (sym is_first)
  kept_one x xs false true is_first is_second same =
      ap (λ (b : Bool). not b && is_ahead p q (filter either xs)) (sym is_second) ∙ ap (λ (b : Bool). b || (not (q x) && is_ahead p q (filter either xs))) (sym is_first)
  kept_one x xs false false is_first is_second same = same

  pub ahead_filter : (xs : List Descriptor) → is_ahead p q xs ≡ is_ahead p q (filter either xs)
  ahead_filter [] = refl
  ahead_filter (x ∷ xs) = kept_one x xs (p x) (q x) refl refl (ahead_filter xs)
