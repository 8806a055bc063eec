-- What balances of each of many, and of one more.
use Rattle.std.proofs.Common.{◌≡◌, ◌+◌, ℕ, Bool, true, false, List, [], ◌∷◌, ◌++◌, map, take, Some, refl, sym, ap, ◌∙◌, subst}
use Rattle.std.specs.Prelude.{◌&&◌, All}
use Rattle.std.proofs.lemmas.Bool.{false≢true}
use Rattle.std.proofs.lemmas.List.{map-append}
use Rattle.std.proofs.lemmas.List.Elements.{All-pop, All-push}

module _ {X : Type 0} (xs : List X) (i : ℕ) (x : X) (one_more : take (i + 1) xs ≡ take i xs ++ x ∷ []) where
  pub mapped_more : {Y : Type 0} (f : X → Y) (made new : List Y) (y : Y) → made ≡ map f (take i xs) → y ≡ f x → new ≡ made ++ y ∷ [] → new ≡ map f (take (i + 1) xs)
  mapped_more {Y = Y} f made new y so_far is grown =
      grown ∙ (λ j. so_far j ++ is j ∷ []) ∙ sym (ap (map f) one_more ∙ map-append f (take i xs) (x ∷ []))

  module _ (P : X → Type 0) where
    -- whether it holds of all so far, and of one more
    pub both_hold : (so_far now : Bool) → (so_far ≡ true → All P (take i xs)) × (All P (take i xs) → so_far ≡ true) → (now ≡ true → P x) × (P x → now ≡ true)
        → ((so_far && now) ≡ true → All P (take (i + 1) xs)) × (All P (take (i + 1) xs) → (so_far && now) ≡ true)
    both_hold true now all one = (
      λ holds. subst (All P) (sym one_more) (All-push P (take i xs) x (all.0 refl) (one.0 holds)),
      λ more. one.1 (All-pop P (take (i + 1) xs) (take i xs) (Some x) one_more more).1,
    )
    both_hold false now all one = (
      λ wrong. absurd (false≢true wrong),
      λ more. absurd (false≢true (all.1 (All-pop P (take (i + 1) xs) (take i xs) (Some x) one_more more).0)),
    )
