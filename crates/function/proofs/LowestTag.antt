-- The Tag of a read line is the lowest that is free.
use Rattle.std.proofs.Common.{◌≡◌, ℕ, ◌+◌, ◌<◌, Bool, true, false, not, cond, List, [], ◌∷◌, Option, Some, None, refl, sym, subst, below_more, arith}
use Rattle.std.specs.List.{find}
use Rattle.fab_types.specs.declared.origin.Origin.TheVariants.{Function}
use Rattle.function.specs.declared.tags.OpenTag.{OpenTag}
use Rattle.function.specs.Tags.{is_open, free_tag}
use Rattle.function.specs.Laws.{IsLowest}

module _ (open_at : ℕ → Bool) where
  abbrev AllBelow : ℕ → Type 0
  AllBelow n = (s : ℕ) → s < n → open_at s ≡ true

  abbrev Lowest : Option ℕ → Type 0
  Lowest None = AllBelow 8
  Lowest (Some tag) = (tag < 8) × (open_at tag ≡ false) × AllBelow tag

  tried : (n : ℕ) (rest : Option ℕ) (b : Bool) → open_at n ≡ b → n < 8 → AllBelow n → (AllBelow (n + 1) → Lowest rest) → Lowest (cond (not b) (Some n) rest)
  tried n rest true is low below later = later (below_more _ _ below is)
  tried n rest false is low below later = (low, is, below)

  next : (n : ℕ) (rest : Option ℕ) → n < 8 → AllBelow n → (AllBelow (n + 1) → Lowest rest) → Lowest (cond (not (open_at n)) (Some n) rest)
  next n rest low below later = tried n rest (open_at n) refl low below later

  pub lowest : Lowest (find (λ tag. not (open_at tag)) (0 ∷ 1 ∷ 2 ∷ 3 ∷ 4 ∷ 5 ∷ 6 ∷ 7 ∷ []))
  lowest =
      next 0 _ (omega arith) (λ s l. absurd (omega (arith, l))) (λ a. next 1 _ (omega arith) a (λ b. next 2 _ (omega arith) b (λ c. next 3 _ (omega arith) c
      (λ d. next 4 _ (omega arith) d (λ e. next 5 _ (omega arith) e (λ f. next 6 _ (omega arith) f (λ g. next 7 _ (omega arith) g (λ h. h))))))))

lowest_is : (tags : List OpenTag) (function : ℕ) (found : Option ℕ) → Lowest (λ tag. is_open tags (Function function) tag) found → IsLowest tags function found
lowest_is tags function None h = h
lowest_is tags function (Some tag) h = h

pub free_tag-lowest : (tags : List OpenTag) (function : ℕ) → IsLowest tags function (free_tag tags function)
unfolding free_tag
free_tag-lowest tags function = lowest_is tags function _ (lowest (λ tag. is_open tags (Function function) tag))

pub free_tag-below : (tags : List OpenTag) (function tag : ℕ) → Some tag ≡ free_tag tags function → tag < 8
free_tag-below tags function tag is = (subst (IsLowest tags function) (sym is) (free_tag-lowest tags function)).0
