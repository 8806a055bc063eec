-- How many elements of a list meet a test.
use Rattle.std.proofs.Common.{◌≡◌, ℕ, ◌+◌, ◌*◌, ◌≤◌, ◌<◌, Bool, true, false, cond, List, [], ◌∷◌, length, Option, Some, refl, arith}
use Rattle.std.specs.Prelude.{count_by, is_some}
use Rattle.std.specs.List.{list_all, find, sum_by}
use Rattle.std.proofs.lemmas.List.Sums.{sum_by-cons}
use Rattle.platform.proofs.Bools.{and-first, and-second}

count-first : {X : Type 0} (p : X → Bool) (x : X) (xs : List X) → count_by p (x ∷ xs) ≡ cond (p x) 1 0 + count_by p xs
count-first p x xs = sum_by-cons (λ x. cond (p x) 1 0) x xs

counted-here : {X : Type 0} (b : Bool) (x : X) (further : Option X) (n : ℕ) → is_some (cond b (Some x) further) ≡ true → (is_some further ≡ true → 1 ≤ n) → 1 ≤ cond b 1 0 + n
counted-here true x further n h later = omega arith
counted-here false x further n h later = let l : 1 ≤ n = later h in omega arith

found-counted : {X : Type 0} (p : X → Bool) (xs : List X) → is_some (find p xs) ≡ true → 1 ≤ count_by p xs
found-counted p [] h = absurd cc
found-counted p (x ∷ xs) h = rw (count-first p x xs) (counted-here (p x) x (find p xs) (count_by p xs) h (found-counted p xs))

sum-split : {X Y : Type 0} (on : X → Y → Bool) (y : Y) (ys : List Y) (xs : List X)
    → sum_by (λ x. count_by (on x) (y ∷ ys)) xs ≡ count_by (λ x. on x y) xs + sum_by (λ x. count_by (on x) ys) xs
sum-split on y ys [] = refl
sum-split on y ys (x ∷ xs) =
    let whole = sum_by-cons (λ x. count_by (on x) (y ∷ ys)) x xs in
    let part = sum_by-cons (λ x. count_by (on x) ys) x xs in
    let one = count-first (λ x. on x y) x xs in
    let here = count-first (on x) y ys in
    let further = sum-split on y ys xs in
    omega (arith, whole, part, one, here, further)

-- each is counted at one at least
pub all-counted : {X Y : Type 0} (on : X → Y → Bool) (xs : List X) (ys : List Y) → list_all (λ y. is_some (find (λ x. on x y) xs)) ys ≡ true → length ys ≤ sum_by (λ x. count_by (on x) ys) xs
all-counted on xs [] h = omega arith
all-counted {X = X} {Y = Y} on xs (y ∷ ys) h =
    let split = sum-split on y ys xs in
    let is_found = λ (y : Y). is_some (find (λ (x : X). on x y) xs) in
    let here = found-counted (λ (x : X). on x y) xs (and-first (is_found y) (list_all is_found ys) h) in
    let further = all-counted on xs ys (and-second (is_found y) (list_all is_found ys) h) in
    omega (arith, split, here, further)

pub sum-most : {X : Type 0} (f : X → ℕ) (most : ℕ) (xs : List X) → ((x : X) → f x ≤ most) → sum_by f xs ≤ length xs * most
sum-most f most [] h = omega arith
sum-most f most (x ∷ xs) h =
    let split = sum_by-cons f x xs in
    let here = h x in
    let further = sum-most f most xs h in
    omega (arith, split, here, further)

bits-weaker : (b c : Bool) → (b ≡ true → c ≡ true) → cond b 1 0 ≤ cond c 1 0
bits-weaker true c w = let h : c ≡ true = w refl in rw h (omega arith)
bits-weaker false c w = omega arith

pub count-weaker : {X : Type 0} (p q : X → Bool) (xs : List X) → ((x : X) → p x ≡ true → q x ≡ true) → count_by p xs ≤ count_by q xs
count-weaker p q [] w = omega arith
count-weaker p q (x ∷ xs) w =
    let old = count-first p x xs in
    let new = count-first q x xs in
    let here = bits-weaker (p x) (q x) (w x) in
    let further = count-weaker p q xs w in
    omega (arith, old, new, here, further)

bit-grows : (b c : Bool) (n m : ℕ) → b ≡ false → c ≡ true → n ≤ m → cond b 1 0 + n < cond c 1 0 + m
bit-grows b c n m no_more now l = rw (no_more, now) (omega (arith, l))

grows-here : {X : Type 0} (r : Bool) (p q : X → Bool) (x y : X) (further : Option X) (n m : ℕ) → cond r (Some y) further ≡ Some x → (p y ≡ true → q y ≡ true) → p x ≡ false → q x ≡ true → n ≤ m → (further ≡ Some x → n < m)
    → cond (p y) 1 0 + n < cond (q y) 1 0 + m
grows-here true p q x y further n m e w old new l later = let same : y ≡ x = cc in rw same (bit-grows (p x) (q x) n m old new l)
grows-here false p q x y further n m e w old new l later =
    let less : n < m = later e in
    let bits = bits-weaker (p y) (q y) w in
    omega (arith, less, bits)

-- one that was found counts only now
pub count-grows : {X : Type 0} (p q r : X → Bool) (xs : List X) (x : X) → ((y : X) → p y ≡ true → q y ≡ true) → find r xs ≡ Some x → p x ≡ false → q x ≡ true → count_by p xs < count_by q xs
count-grows p q r [] x w e old new = absurd cc
count-grows p q r (y ∷ ys) x w e old new =
    rw (count-first p y ys, count-first q y ys)
    (grows-here (r y) p q x y (find r ys) (count_by p ys) (count_by q ys) e (w y) old new (count-weaker p q ys w) (λ e. count-grows p q r ys x w e old new))
