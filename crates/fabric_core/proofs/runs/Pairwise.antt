-- Two lists whose elements are related one by one.
use Rattle.std.proofs.Common.{◌≡◌, ℕ, zero, suc, List, [], ◌∷◌, map, get_or, set, refl}
use Rattle.std.specs.Prelude.{⊤, All}
use Rattle.std.proofs.lemmas.List.Elements.{All-head, All-tail}

module _ {X Y : Type 0} where
  abbrev pub Pairwise : (X → Y → Type 0) → List X → List Y → Type 0
  Pairwise R [] [] = ⊤
  Pairwise R (x ∷ xs) (y ∷ ys) = R x y × Pairwise R xs ys
  Pairwise R [] (y ∷ ys) = ⊥
  Pairwise R (x ∷ xs) [] = ⊥

  -- ---- at a place

  pub pair_at : (R : X → Y → Type 0) (xs : List X) (ys : List Y) (i : ℕ) (x : X) (y : Y) → R x y → Pairwise R xs ys → R (get_or xs i x) (get_or ys i y)
  pair_at R [] [] i x y beside all = beside
  pair_at R (a ∷ xs) (b ∷ ys) zero x y beside all = all.0
  pair_at R (a ∷ xs) (b ∷ ys) (suc i) x y beside all = pair_at R xs ys i x y beside all.1
  pair_at R [] (b ∷ ys) i x y beside all = absurd all
  pair_at R (a ∷ xs) [] i x y beside all = absurd all

  pub pair_set : (R : X → Y → Type 0) (xs : List X) (ys : List Y) (i : ℕ) (x : X) (y : Y) → R x y → Pairwise R xs ys → Pairwise R (set xs i x) (set ys i y)
  pair_set R [] [] i x y new all = tt
  pair_set R (a ∷ xs) (b ∷ ys) zero x y new all = (new, all.1)
  pair_set R (a ∷ xs) (b ∷ ys) (suc i) x y new all = (all.0, pair_set R xs ys i x y new all.1)
  pair_set R [] (b ∷ ys) i x y new all = absurd all
  pair_set R (a ∷ xs) [] i x y new all = absurd all

  -- ---- in all

  pub pair_map : {Z : Type 0} (R : X → Y → Type 0) (f : X → Z) (g : Y → Z) (xs : List X) (ys : List Y) → ((x : X) (y : Y) → R x y → g y ≡ f x) → Pairwise R xs ys → map g ys ≡ map f xs
  pair_map R f g [] [] same all = refl
  pair_map R f g (x ∷ xs) (y ∷ ys) same all = let first = same x y all.0 in let later = pair_map R f g xs ys same all.1 in cc
  pair_map R f g [] (y ∷ ys) same all = absurd all
  pair_map R f g (x ∷ xs) [] same all = absurd all

module _ {X : Type 0} (R : X → X → Type 0) (same : (x : X) → R x x) where
  pub pair_same : (xs : List X) → Pairwise R xs xs
  pair_same [] = tt
  pair_same (x ∷ xs) = (same x, pair_same xs)

  -- one element is replaced by one that it is related to
  pub pair_changed : (xs : List X) (i : ℕ) (y d : X) → R (get_or xs i d) y → Pairwise R xs (set xs i y)
  pair_changed [] i y d new = tt
  pair_changed (x ∷ xs) zero y d new = (new, pair_same xs)
  pair_changed (x ∷ xs) (suc i) y d new = (same x, pair_changed xs i y d new)

-- what x has with y, and what became of x, tells what that has with y
pub pair_after : {X X' Y : Type 0} (R : X → Y → Type 0) (Q : X → X' → Type 0) (S : X' → Y → Type 0) → ((x : X) (x' : X') (y : Y) → R x y → Q x x' → S x' y)
    → (xs : List X) (xs' : List X') (ys : List Y) → Pairwise R xs ys → Pairwise Q xs xs' → Pairwise S xs' ys
pair_after R Q S so [] [] [] all changed = tt
pair_after R Q S so (x ∷ xs) (x' ∷ xs') (y ∷ ys) all changed = (so x x' y all.0 changed.0, pair_after R Q S so xs xs' ys all.1 changed.1)
pair_after R Q S so [] [] (y ∷ ys) all changed = absurd all
pair_after R Q S so (x ∷ xs) xs' [] all changed = absurd all
pair_after R Q S so [] (x' ∷ xs') ys all changed = absurd changed
pair_after R Q S so (x ∷ xs) [] ys all changed = absurd changed

-- images that are the same are so one by one
pub pair_from : {X Y Z : Type 0} (f : X → Z) (g : Y → Z) (xs : List X) (ys : List Y) → map g ys ≡ map f xs → Pairwise (λ x y. g y ≡ f x) xs ys
pair_from f g [] [] same = tt
pair_from f g (x ∷ xs) (y ∷ ys) same = (let first : g y ≡ f x = cc in first, pair_from f g xs ys cc)
pair_from f g [] (y ∷ ys) same = absurd cc
pair_from f g (x ∷ xs) [] same = absurd cc

pub pair_both : {X Y : Type 0} (R S : X → Y → Type 0) (xs : List X) (ys : List Y) → Pairwise R xs ys → Pairwise S xs ys → Pairwise (λ x y. R x y × S x y) xs ys
pair_both R S [] [] one other = tt
pair_both R S (x ∷ xs) (y ∷ ys) one other = ((one.0, other.0), pair_both R S xs ys one.1 other.1)
pair_both R S [] (y ∷ ys) one other = absurd one
pair_both R S (x ∷ xs) [] one other = absurd one

pub pair_then : {X Y Z : Type 0} (R : X → Y → Type 0) (Q : Y → Z → Type 0) (S : X → Z → Type 0) → ((x : X) (y : Y) (z : Z) → R x y → Q y z → S x z) → (xs : List X) (ys : List Y) (zs : List Z) → Pairwise R xs ys → Pairwise Q ys zs → Pairwise S xs zs
pair_then R Q S so [] [] [] one other = tt
pair_then R Q S so (x ∷ xs) (y ∷ ys) (z ∷ zs) one other = (so x y z one.0 other.0, pair_then R Q S so xs ys zs one.1 other.1)
pair_then R Q S so [] [] (z ∷ zs) one other = absurd other
pair_then R Q S so (x ∷ xs) (y ∷ ys) [] one other = absurd other
pair_then R Q S so [] (y ∷ ys) zs one other = absurd one
pair_then R Q S so (x ∷ xs) [] zs one other = absurd one

-- what holds of each element relates it to itself
pub pair_all : {X : Type 0} (P : X → Type 0) (R : X → X → Type 0) → ((x : X) → P x → R x x) → (xs : List X) → All P xs → Pairwise R xs xs
pair_all P R so [] all = tt
pair_all P R so (x ∷ xs) all = (so x (All-head P x xs all), pair_all P R so xs (All-tail P x xs all))
