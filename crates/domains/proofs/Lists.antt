-- Searches and changes of lists.
use Rattle.std.proofs.Common.{◌≡◌, ◌≢◌, ℕ, zero, suc, ◌+◌, Bool, true, cond, List, [], ◌∷◌, length, map, set, Some, None, refl, sym, ap, ◌∙◌, length-set, not, slice_get}
use Rattle.std.specs.Prelude.{nat_lt, option_map}
use Rattle.std.specs.List.{find, position, position_or_len}
use Rattle.std.proofs.lemmas.List.{length-map}
use Rattle.std.proofs.lemmas.List.Folds.{find_at, position_or_len-set}
use Rattle.std.proofs.lemmas.List.Quantifiers.{position-Some}
use Rattle.std.proofs.lemmas.Option.{get_or_from_slice_get}

-- ---- an element is changed

-- what a test finds stays where it was
pub position_kept : {X : Type 0} (p : X → Bool) (xs : List X) (i : ℕ) (old new : X) → slice_get xs i ≡ Some old → p new ≡ p old → position p (set xs i new) ≡ position p xs
position_kept {X} p xs i old new there same =
    let first : position_or_len p (set xs i new) ≡ position_or_len p xs = position_or_len-set p xs i new old (same ∙ ap p (sym (get_or_from_slice_get xs i old old there))) in
    ap (λ (n : ℕ). cond (nat_lt (position_or_len p (set xs i new)) n) (Some (position_or_len p (set xs i new))) None) (length-set xs i new)
    ∙ ap (λ (n : ℕ). cond (nat_lt n (length xs)) (Some n) None) first

-- what holds of the new element, and of each other one, holds of each
pub each_place : {X : Type 0} (P : ℕ → X → Type 0) (xs : List X) (i : ℕ) (new : X) → P i new → ((j : ℕ) (x : X) → j ≢ i → slice_get xs j ≡ Some x → P j x)
    → (j : ℕ) (x : X) → slice_get (set xs i new) j ≡ Some x → P j x
each_place P [] i new here others j x there = absurd cc
each_place P (y ∷ ys) zero new here others zero x there = let is : new ≡ x = cc in rw (← is) here
each_place P (y ∷ ys) zero new here others (suc j) x there = others (suc j) x (λ e. absurd cc) there
each_place P (y ∷ ys) (suc i) new here others zero x there = others zero x (λ e. absurd cc) there
each_place P (y ∷ ys) (suc i) new here others (suc j) x there = each_place (λ k z. P (suc k) z) ys i new here (λ k z apart at. others (suc k) z (λ e. apart (cc)) at) j x there

pub map_set : {X Y : Type 0} (f : X → Y) (xs : List X) (i : ℕ) (new : X) → map f (set xs i new) ≡ set (map f xs) i (f new)
map_set f [] i new = refl
map_set f (x ∷ xs) zero new = refl
map_set f (x ∷ xs) (suc i) new = ap (λ ys. f x ∷ ys) (map_set f xs i new)

-- ---- a list of images

pub get_map : {X Y : Type 0} (f : X → Y) (xs : List X) (i : ℕ) → slice_get (map f xs) i ≡ option_map f (slice_get xs i)
get_map f [] i = refl
get_map f (x ∷ xs) zero = refl
get_map f (x ∷ xs) (suc i) = get_map f xs i

first_map : {X Y : Type 0} (p : Y → Bool) (f : X → Y) (xs : List X) → position_or_len p (map f xs) ≡ position_or_len (λ x. p (f x)) xs
first_map p f [] = refl
first_map p f (x ∷ xs) = ap (λ (n : ℕ). cond (not (p (f x))) (1 + n) 0) (first_map p f xs)

pub position_map : {X Y : Type 0} (p : Y → Bool) (f : X → Y) (xs : List X) → position p (map f xs) ≡ position (λ x. p (f x)) xs
position_map p f xs =
    ap (λ (n : ℕ). cond (nat_lt (position_or_len p (map f xs)) n) (Some (position_or_len p (map f xs))) None) (length-map xs f)
    ∙ ap (λ (n : ℕ). cond (nat_lt n (length xs)) (Some n) None) (first_map p f xs)

pub find_map : {X Y : Type 0} (p : Y → Bool) (f : X → Y) (xs : List X) → find p (map f xs) ≡ option_map f (find (λ x. p (f x)) xs)
find_map p f xs = find_at p (map f xs) ∙ get_map f xs (position_or_len p (map f xs)) ∙ ap (λ (i : ℕ). option_map f (slice_get xs i)) (first_map p f xs) ∙ ap (option_map f) (sym (find_at (λ x. p (f x)) xs))

-- ---- what a search finds

pub found_there : {X : Type 0} (p : X → Bool) (xs : List X) (i : ℕ) (x : X) → position p xs ≡ Some i → slice_get xs i ≡ Some x → p x ≡ true
found_there p xs i x is there = ap p (sym (get_or_from_slice_get xs i x x there)) ∙ (position-Some p xs i x is).1
