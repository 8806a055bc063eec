-- Lists of lists in which few elements pass a test.
use Rattle.std.proofs.Common.{◌≡◌, ℕ, zero, suc, ◌+◌, ◌<◌, ◌≤◌, Bool, true, false, cond, List, [], ◌∷◌, ◌++◌, get_or, Some, refl, ap, ◌∙◌, arith}
use Rattle.std.specs.Prelude.{◌||◌, count_by, slice_get}
use Rattle.std.specs.List.{flat_map, list_any}
use Rattle.std.proofs.lemmas.List.Folds.{list_any-append}
use Rattle.std.proofs.lemmas.List.Sums.{sum_by-cons}
use Rattle.fabric_core.proofs.invariant.Changing.{count_append}

module _ {A : Type 0} (p : A → Bool) where
  count_cons : (x : A) (xs : List A) (b : Bool) → p x ≡ b → count_by p (x ∷ xs) ≡ cond b 1 0 + count_by p xs
  count_cons x xs b is = sum_by-cons (λ (y : A). cond (p y) 1 0) x xs ∙ ap (λ (c : Bool). cond c 1 0 + count_by p xs) is

  -- ---- one that passes is counted

  counted_of : (x : A) (xs : List A) (b : Bool) → p x ≡ b → (list_any p xs ≡ true → 0 < count_by p xs) → (b || list_any p xs) ≡ true → 0 < count_by p (x ∷ xs)
  counted_of x xs true is later h = let c = count_cons x xs true is in omega (arith, c)
  counted_of x xs false is later h = let c = count_cons x xs false is in omega (arith, c, later h)

  pub counted : (xs : List A) → list_any p xs ≡ true → 0 < count_by p xs
  counted [] h = absurd cc
  counted (x ∷ xs) h = counted_of x xs (p x) refl (counted xs) h

  uncounted_of : (x : A) (xs : List A) (b : Bool) → p x ≡ b → (list_any p xs ≡ false → count_by p xs ≡ 0) → (b || list_any p xs) ≡ false → count_by p (x ∷ xs) ≡ 0
  uncounted_of x xs true is later h = absurd cc
  uncounted_of x xs false is later h = let c = count_cons x xs false is in omega (arith, c, later h)

  pub uncounted : (xs : List A) → list_any p xs ≡ false → count_by p xs ≡ 0
  uncounted [] h = refl
  uncounted (x ∷ xs) h = uncounted_of x xs (p x) refl (uncounted xs) h

  -- ---- of two lists

  or_left : (a b : Bool) → a ≡ true → (a || b) ≡ true
  or_left true b h = refl
  or_left false b h = absurd cc

  or_right : (a b : Bool) → b ≡ true → (a || b) ≡ true
  or_right true b h = refl
  or_right false b h = h

  neither : (a b : Bool) → a ≡ false → b ≡ false → (a || b) ≡ false
  neither true b h k = absurd cc
  neither false b h k = k

  pub any_front : (xs ys : List A) → list_any p xs ≡ true → list_any p (xs ++ ys) ≡ true
  any_front xs ys h = list_any-append p xs ys ∙ or_left (list_any p xs) (list_any p ys) h

  pub any_back : (xs ys : List A) → list_any p ys ≡ true → list_any p (xs ++ ys) ≡ true
  any_back xs ys h = list_any-append p xs ys ∙ or_right (list_any p xs) (list_any p ys) h

  pub none_both : (xs ys : List A) → list_any p xs ≡ false → list_any p ys ≡ false → list_any p (xs ++ ys) ≡ false
  none_both xs ys h k = list_any-append p xs ys ∙ neither (list_any p xs) (list_any p ys) h k

  pub not_both : (xs ys : List A) → count_by p (xs ++ ys) ≤ 1 → list_any p xs ≡ true → list_any p ys ≡ true → ⊥
  not_both xs ys few h k = omega (arith, few, count_append p xs ys, counted xs h, counted ys k)

  pub few_front : (xs ys : List A) → count_by p (xs ++ ys) ≤ 1 → count_by p xs ≤ 1
  few_front xs ys few = omega (arith, few, count_append p xs ys)

  pub few_back : (xs ys : List A) → count_by p (xs ++ ys) ≤ 1 → count_by p ys ≤ 1
  few_back xs ys few = omega (arith, few, count_append p xs ys)

  -- ---- of many lists

  module _ {X : Type 0} (f : X → List A) where
    nothing_in : (d : X) → f d ≡ [] → list_any p (f d) ≡ true → ⊥
    nothing_in d none h = absurd (let no = ap (list_any p) none in cc)

    pub any_at : (xs : List X) (i : ℕ) (d : X) → f d ≡ [] → list_any p (f (get_or xs i d)) ≡ true → list_any p (flat_map f xs) ≡ true
    any_at [] i d none h = absurd (nothing_in d none h)
    any_at (x ∷ xs) zero d none h = any_front (f x) (flat_map f xs) h
    any_at (x ∷ xs) (suc i) d none h = any_back (f x) (flat_map f xs) (any_at xs i d none h)

    -- where few pass at all, few pass in each
    pub few_at : (xs : List X) (i : ℕ) (d : X) → f d ≡ [] → count_by p (flat_map f xs) ≤ 1 → count_by p (f (get_or xs i d)) ≤ 1
    few_at [] i d none few = (let no = ap (count_by p) none in let zero_of : count_by p (f d) ≡ 0 = no in omega (arith, zero_of))
    few_at (x ∷ xs) zero d none few = few_front (f x) (flat_map f xs) few
    few_at (x ∷ xs) (suc i) d none few = few_at xs i d none (few_back (f x) (flat_map f xs) few)

    -- and in one alone
    pub same_one : (xs : List X) (i j : ℕ) (d : X) → f d ≡ [] → list_any p (f (get_or xs i d)) ≡ true → list_any p (f (get_or xs j d)) ≡ true → count_by p (flat_map f xs) ≤ 1 → i ≡ j
    same_one [] i j d none h k few = absurd (nothing_in d none h)
    same_one (x ∷ xs) zero zero d none h k few = refl
    same_one (x ∷ xs) zero (suc j) d none h k few = absurd (not_both (f x) (flat_map f xs) few h (any_at xs j d none k))
    same_one (x ∷ xs) (suc i) zero d none h k few = absurd (not_both (f x) (flat_map f xs) few k (any_at xs i d none h))
    same_one (x ∷ xs) (suc i) (suc j) d none h k few = ap suc (same_one xs i j d none h k (few_back (f x) (flat_map f xs) few))

    pub none_in : (xs : List X) → ((i : ℕ) (x : X) → slice_get xs i ≡ Some x → list_any p (f x) ≡ false) → list_any p (flat_map f xs) ≡ false
    none_in [] none = refl
    none_in (x ∷ xs) none = none_both (f x) (flat_map f xs) (none 0 x refl) (none_in xs (λ i y at. none (suc i) y at))

    -- none passes where none does in any of them
    pub none_at : (xs : List X) (d : X) → ((i : ℕ) → list_any p (f (get_or xs i d)) ≡ false) → list_any p (flat_map f xs) ≡ false
    none_at [] d none = refl
    none_at (x ∷ xs) d none = none_both (f x) (flat_map f xs) (none 0) (none_at xs d (λ i. none (suc i)))
