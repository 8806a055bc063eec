-- What was counted of the first that passes.
use Rattle.std.proofs.Common.{◌≡◌, ℕ, suc, ◌<◌, Bool, true, cond, List, ◌∷◌, length, get_or, drop, drop-cons, map, Some, sym, ap, ◌∙◌}
use Rattle.std.specs.Prelude.{option_map}
use Rattle.std.specs.List.{find}
use Rattle.std.proofs.lemmas.List.{get_or-map}

module _ {X Y : Type 0} (p : X → Bool) (f : X → Y) where
  pub found_at : (xs : List X) (ys : List Y) (i : ℕ) (x : X) (y : Y) → i < length xs → x ≡ get_or xs i x → p x ≡ true → find p (drop i xs) ≡ find p xs → map f xs ≡ ys → y ≡ get_or ys i y
      → Some y ≡ option_map f (find p xs)
  found_at xs ys i x y lt at passes so_far made is =
      let rest : drop i xs ≡ x ∷ drop (suc i) xs = drop-cons xs i x lt ∙ ap (λ (z : X). z ∷ drop (suc i) xs) (sym at) in
      let first : find p (x ∷ drop (suc i) xs) ≡ Some x = ap (λ (b : Bool). cond b (Some x) (find p (drop (suc i) xs))) passes in
      let value : y ≡ f x = is ∙ ap (λ (l : List Y). get_or l i y) (sym made) ∙ get_or-map f xs i x y lt ∙ ap f (sym at) in
      ap (λ (z : Y). Some z) value ∙ sym (ap (option_map f) (sym so_far ∙ ap (find p) rest ∙ first))
