-- What a search of a list finds.
use Rattle.std.proofs.Common.{◌≡◌, ℕ, Bool, true, false, cond, List, [], ◌∷◌, length, map, Option, Some, None, Bor, refl, sym, ap, ◌∙◌}
use Rattle.std.specs.Prelude.{◌&&◌, nat_lt, option_and_then, option_map}
use Rattle.std.specs.List.{find, filter, position, position_or_len, slice_get, list_all}
use Rattle.std.specs.Option.{option_copied}
use Rattle.std.specs.Slice.{IsGetResult}
use Rattle.std.proofs.lemmas.Bool.{and_parts, ltb-false}
use Rattle.std.proofs.lemmas.List.Folds.{find_at}
use Rattle.std.proofs.lemmas.Option.{slice_get_past, slice_get_read}

-- none passes a test that none passes
pub found-none : {X : Type 0} (xs : List X) → find (λ x. false) xs ≡ None
found-none [] = refl
found-none (x ∷ xs) = found-none xs

-- what is found passes
passes-first : {X : Type 0} (p : X → Bool) (b : Bool) (x y : X) (further : Option X) → p x ≡ b → (further ≡ Some y → p y ≡ true) → cond b (Some x) further ≡ Some y → p y ≡ true
passes-first p true x y further is rest e = let same : x ≡ y = cc in rw (← same) is
passes-first p false x y further is rest e = rest e

pub find-passes : {X : Type 0} (p : X → Bool) (xs : List X) (y : X) → find p xs ≡ Some y → p y ≡ true
find-passes p [] y e = absurd cc
find-passes p (x ∷ xs) y e = passes-first p (p x) x y (find p xs) refl (find-passes p xs y) e

-- two tests that agree on what passes a third find the same
pub find-same : {X : Type 0} (p q r : X → Bool) (xs : List X) → list_all r xs ≡ true → ((x : X) → r x ≡ true → p x ≡ q x) → find p xs ≡ find q xs
find-same p q r [] all same = refl
find-same p q r (x ∷ xs) all same =
    let all' = and_parts (r x) (list_all r xs) all in
    rw (same x all'.0) (ap (λ o. cond (q x) (Some x) o) (find-same p q r xs all'.1 same))

within-or-past : {X : Type 0} (xs : List X) (k : ℕ) (b : Bool) → nat_lt k (length xs) ≡ b → option_and_then (slice_get xs) (cond b (Some k) None) ≡ slice_get xs k
within-or-past xs k true is = refl
within-or-past xs k false is = sym (slice_get_past xs k (ltb-false k (length xs) is))

-- what stands at the place of the first that passes is the first that passes
place-found : {X : Type 0} (p : X → Bool) (xs : List X) → option_and_then (slice_get xs) (position p xs) ≡ find p xs
place-found p xs = within-or-past xs (position_or_len p xs) (nat_lt (position_or_len p xs) (length xs)) refl ∙ sym (find_at p xs)

-- what is found has its place
pub none-found : {X : Type 0} (p : X → Bool) (xs : List X) → position p xs ≡ None → find p xs ≡ None
none-found p xs none = sym (place-found p xs) ∙ ap (option_and_then (slice_get xs)) none

pub one-found : {X : Type 0} (p : X → Bool) (xs : List X) (k : ℕ) → position p xs ≡ Some k → find p xs ≡ slice_get xs k
one-found p xs k there = sym (place-found p xs) ∙ ap (option_and_then (slice_get xs)) there

-- what `get` lends
pub got : {X : Type 0} (xs : List X) (k : ℕ) (lent : Option (Bor X)) → IsGetResult xs k k lent → option_copied lent ≡ slice_get xs k
got xs k None h = sym (slice_get_past xs k h.3)
got xs k (Some x) h = sym (slice_get_read xs (length xs) k x.now refl h.3.0 h.1)

-- equal tests find the same
pub find-equal : {X : Type 0} (p q : X → Bool) (xs : List X) → ((x : X) → p x ≡ q x) → find p xs ≡ find q xs
find-equal p q [] same = refl
find-equal p q (x ∷ xs) same = rw (same x) (ap (λ o. cond (q x) (Some x) o) (find-equal p q xs same))

map-first : {X Y : Type 0} (f : X → Y) (b : Bool) (x : X) (further : Option X) (mapped : Option Y) → mapped ≡ option_map f further
    → cond b (Some (f x)) mapped ≡ option_map f (cond b (Some x) further)
map-first f true x further mapped rest = refl
map-first f false x further mapped rest = rest

-- what is found among images is the image of what is found
pub find-map : {X Y : Type 0} (p : Y → Bool) (f : X → Y) (xs : List X) → find p (map f xs) ≡ option_map f (find (λ x. p (f x)) xs)
find-map p f [] = refl
find-map p f (x ∷ xs) = map-first f (p (f x)) x (find (λ y. p (f y)) xs) (find p (map f xs)) (find-map p f xs)

both-first : {X : Type 0} (p : X → Bool) (b : Bool) (x : X) (kept : List X) (further : Option X) → find p kept ≡ further
    → find p (cond b (x ∷ kept) kept) ≡ cond (b && p x) (Some x) further
both-first p true x kept further rest = ap (λ o. cond (p x) (Some x) o) rest
both-first p false x kept further rest = rest

-- what is found among those that pass is the first that passes both tests
pub find-filter : {X : Type 0} (p q : X → Bool) (xs : List X) → find p (filter q xs) ≡ find (λ x. q x && p x) xs
find-filter p q [] = refl
find-filter p q (x ∷ xs) = both-first p (q x) x (filter q xs) (find (λ y. q y && p y) xs) (find-filter p q xs)

only-first : (b c : Bool) → (c ≡ true → b ≡ true) → (b && c) ≡ c
only-first true c implied = refl
only-first false true implied = implied refl
only-first false false implied = refl

-- the first test may be left out where the second implies it
pub find-both : {X : Type 0} (p q : X → Bool) (xs : List X) → ((x : X) → p x ≡ true → q x ≡ true) → find (λ x. q x && p x) xs ≡ find p xs
find-both p q [] implied = refl
find-both p q (x ∷ xs) implied = rw (only-first (q x) (p x) (implied x)) (ap (λ o. cond (p x) (Some x) o) (find-both p q xs implied))

and-true : (b : Bool) → (b && true) ≡ b
and-true true = refl
and-true false = refl

and-false : (b : Bool) → (b && false) ≡ false
and-false true = refl
and-false false = refl

-- a test that doesn't read the element may come after the search
pub find-and : {X : Type 0} (p : X → Bool) (c : Bool) (xs : List X) → find (λ x. p x && c) xs ≡ cond c (find p xs) None
find-and p true [] = refl
find-and p false [] = refl
find-and p true (x ∷ xs) = rw (and-true (p x)) (ap (λ o. cond (p x) (Some x) o) (find-and p true xs))
find-and p false (x ∷ xs) = rw (and-false (p x)) (find-and p false xs)
