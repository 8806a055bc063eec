-- What stands in a list with one more element, or with one replaced.
use Rattle.std.proofs.Common.{◌≡◌, ℕ, zero, suc, ◌<◌, ◌≢◌, ◌⊎◌, List, ◌∷◌, length, get_or, set, refl, sym, ◌∙◌, subst, inl, inr, arith}
use Rattle.std.specs.Prelude.{All, Contains}
use Rattle.std.specs.List.{insert}
use Rattle.std.proofs.lemmas.Bool.{cases_eq}
use Rattle.std.proofs.lemmas.List.{length-set, get_or-set_same, get_or-set_other}
use Rattle.std.proofs.lemmas.List.Sorted.{All-permutation, Contains-permutation, IsPermutation-insert, IsPermutation-sym}
use Rattle.std.proofs.lemmas.List.Elements.{All-cons}

-- an element of a list with one in front
pub in_front : {X : Type 0} (x : X) (xs : List X) (y : X) (k : ℕ) → k < length (x ∷ xs) → get_or (x ∷ xs) k y ≡ y → Contains xs y ⊎ (y ≡ x)
in_front x xs y zero within here = inr (sym here)
in_front x xs y (suc k) within here = inl (k, omega (arith, within), here)

pub behind_first : {X : Type 0} (x : X) (xs : List X) (y : X) → Contains xs y → Contains (x ∷ xs) y
behind_first x xs y there = (suc there.0, omega (arith, there.1), there.2)

module _ {X : Type 0} (xs : List X) (place : ℕ) (x : X) where
  pub insert_cases : (y : X) → Contains (insert xs place x) y → Contains xs y ⊎ (y ≡ x)
  insert_cases y there =
      let c = Contains-permutation (insert xs place x) (x ∷ xs) y (IsPermutation-sym (x ∷ xs) (insert xs place x) (IsPermutation-insert xs place x)) there in
      in_front x xs y c.0 c.1 c.2

  pub insert_old : (y : X) → Contains xs y → Contains (insert xs place x) y
  insert_old y there = Contains-permutation (x ∷ xs) (insert xs place x) y (IsPermutation-insert xs place x) (behind_first x xs y there)

  pub insert_new : Contains (insert xs place x) x
  insert_new = Contains-permutation (x ∷ xs) (insert xs place x) x (IsPermutation-insert xs place x) (0, omega arith, refl)

  pub all_insert : (P : X → Type 0) → P x → All P xs → All P (insert xs place x)
  all_insert P here rest = All-permutation P (x ∷ xs) (insert xs place x) (IsPermutation-insert xs place x) (All-cons P x xs here rest)

module _ {X : Type 0} (xs : List X) (place : ℕ) (x : X) (within : place < length xs) where
  pub set_cases : (y : X) → Contains (set xs place x) y → Contains xs y ⊎ (y ≡ x)
  set_cases y there = elim (cases_eq there.0 place) [
    | inl same ↦ inr (sym there.2 ∙ rw same (get_or-set_same xs place x y within))
    | inr other ↦ inl (there.0, omega (arith, there.1, length-set xs place x), sym (get_or-set_other xs place there.0 x y other) ∙ there.2)
  ]

  pub set_new : Contains (set xs place x) x
  set_new = (place, omega (arith, length-set xs place x), get_or-set_same xs place x x within)

  pub set_old : (y : X) → Contains xs y → Contains (set xs place x) y ⊎ (get_or xs place y ≡ y)
  set_old y there = elim (cases_eq there.0 place) [
    | inl same ↦ inr (rw (← same) there.2)
    | inr other ↦ inl (there.0, omega (arith, there.1, length-set xs place x), get_or-set_other xs place there.0 x y other ∙ there.2)
  ]

  pub all_set : (P : X → Type 0) → P x → ((k : ℕ) (d : X) → k < length xs → k ≢ place → P (get_or xs k d)) → All P (set xs place x)
  all_set P here rest k d inside = elim (cases_eq k place) [
    | inl same ↦ rw same (subst P (sym (get_or-set_same xs place x d within)) here)
    | inr other ↦ subst P (sym (get_or-set_other xs place k x d other)) (rest k d (omega (arith, inside, length-set xs place x)) other)
  ]
