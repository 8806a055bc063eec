-- Tests over lists.
use Rattle.std.proofs.Common.{◌≡◌, ℕ, zero, suc, get_or, ◌+◌, ◌≤◌, ◌<◌, Bool, true, false, cond, List, [], ◌∷◌, ◌++◌, length, Option, Some, refl, ap, ◌∙◌, arith, zero-add}
use Rattle.std.specs.Prelude.{◌&&◌, ◌||◌, not, count_by, is_some}
use Rattle.std.specs.List.{list_all, list_any, find}
use Rattle.std.proofs.lemmas.List.Sums.{sum_by-append}
use Rattle.layout.specs.Laws.{each_pair}
use Rattle.platform.proofs.Bools.{and-first, and-second, and-both, or-first, or-second}

pub not-false : (a : Bool) → not a ≡ false → a ≡ true
not-false true h = refl
not-false false h = absurd cc

pub not-true : (a : Bool) → a ≡ false → not a ≡ true
not-true true h = absurd cc
not-true false h = refl

pub true-not : (a : Bool) → not a ≡ true → a ≡ false
true-not true h = absurd cc
true-not false h = refl

pub all-more : {X : Type 0} (p : X → Bool) (xs : List X) (y : X) → list_all p xs ≡ true → p y ≡ true → list_all p (xs ++ y ∷ []) ≡ true
all-more p [] y h k = and-both (p y) true k refl
all-more p (x ∷ xs) y h k = and-both (p x) (list_all p (xs ++ y ∷ [])) (and-first (p x) (list_all p xs) h) (all-more p xs y (and-second (p x) (list_all p xs) h) k)

pub count-more : {X : Type 0} (p : X → Bool) (xs : List X) (y : X) → count_by p (xs ++ y ∷ []) ≡ count_by p xs + cond (p y) 1 0
count-more p xs y = sum_by-append (λ x. cond (p x) 1 0) xs (y ∷ []) ∙ ap (λ (n : ℕ). count_by p xs + n) (zero-add (cond (p y) 1 0))

count-case : (b : Bool) (n most : ℕ) → n ≤ most → (b ≡ true → n < most) → n + cond b 1 0 ≤ most
count-case true n most h k = let l : n < most = k refl in omega arith
count-case false n most h k = omega arith

-- one more keeps a limit, if there is room where it counts
pub count-kept : {X : Type 0} (p : X → Bool) (xs : List X) (y : X) (most : ℕ) → count_by p xs ≤ most → (p y ≡ true → count_by p xs < most) → count_by p (xs ++ y ∷ []) ≤ most
count-kept p xs y most h k = rw (count-more p xs y) (count-case (p y) (count_by p xs) most h k)

pub all-and : {X : Type 0} (p q : X → Bool) (xs : List X) → list_all p xs ≡ true → list_all q xs ≡ true → list_all (λ x. p x && q x) xs ≡ true
all-and p q [] h k = refl
all-and p q (x ∷ xs) h k =
    and-both (p x && q x) (list_all (λ y. p y && q y) xs)
    (and-both (p x) (q x) (and-first (p x) (list_all p xs) h) (and-first (q x) (list_all q xs) k))
    (all-and p q xs (and-second (p x) (list_all p xs) h) (and-second (q x) (list_all q xs) k))

pub all-not : {X : Type 0} (p : X → Bool) (xs : List X) → list_any p xs ≡ false → list_all (λ x. not (p x)) xs ≡ true
all-not p [] h = refl
all-not p (x ∷ xs) h = and-both (not (p x)) (list_all (λ y. not (p y)) xs) (not-true (p x) (or-first (p x) (list_any p xs) h)) (all-not p xs (or-second (p x) (list_any p xs) h))

pub all-none : {X : Type 0} (p : X → Bool) (xs : List X) → length xs ≡ 0 → list_all p xs ≡ true
all-none p [] h = refl
all-none p (x ∷ xs) h = absurd (omega arith)

missing-here : {X : Type 0} (b : Bool) (x : X) (further : Option X) (rest : Bool) → is_some (cond b (Some x) further) ≡ false → (is_some further ≡ false → rest ≡ false) → (b || rest) ≡ false
missing-here true x further rest e later = absurd cc
missing-here false x further rest e later = later e

pub any-missing : {X : Type 0} (p : X → Bool) (xs : List X) → is_some (find p xs) ≡ false → list_any p xs ≡ false
any-missing p [] h = refl
any-missing p (x ∷ xs) h = missing-here (p x) x (find p xs) (list_any p xs) h (any-missing p xs)

stays-here : {X : Type 0} (b : Bool) (x : X) (further more : Option X) → is_some (cond b (Some x) further) ≡ true → (is_some further ≡ true → more ≡ further) → cond b (Some x) more ≡ cond b (Some x) further
stays-here true x further more e later = refl
stays-here false x further more e later = later e

-- what was found is found also in a longer list
pub find-stays : {X : Type 0} (p : X → Bool) (xs ys : List X) → is_some (find p xs) ≡ true → find p (xs ++ ys) ≡ find p xs
find-stays p [] ys h = absurd cc
find-stays p (x ∷ xs) ys h = stays-here (p x) x (find p xs) (find p (xs ++ ys)) h (find-stays p xs ys)

some-here : {X : Type 0} (b c : Bool) (x : X) (further other : Option X) → (b ≡ true → c ≡ true) → is_some (cond b (Some x) further) ≡ true → (is_some further ≡ true → is_some other ≡ true) → is_some (cond c (Some x) other) ≡ true
some-here true c x further other w e later = let h : c ≡ true = w refl in rw h refl
some-here false true x further other w e later = refl
some-here false false x further other w e later = later e

pub some-weaker : {X : Type 0} (p q : X → Bool) (xs : List X) → ((x : X) → p x ≡ true → q x ≡ true) → is_some (find p xs) ≡ true → is_some (find q xs) ≡ true
some-weaker p q [] w h = h
some-weaker p q (x ∷ xs) w h = some-here (p x) (q x) x (find p xs) (find q xs) (w x) h (some-weaker p q xs w)

any-here : (b rest more : Bool) → (b || rest) ≡ true → (rest ≡ true → more ≡ true) → (b || more) ≡ true
any-here true rest more h later = refl
any-here false rest more h later = later h

pub any-stays : {X : Type 0} (p : X → Bool) (xs ys : List X) → list_any p xs ≡ true → list_any p (xs ++ ys) ≡ true
any-stays p [] ys h = absurd cc
any-stays p (x ∷ xs) ys h = any-here (p x) (list_any p xs) (list_any p (xs ++ ys)) h (any-stays p xs ys)

pub pair-more : {X : Type 0} (r : X → X → Bool) (xs : List X) (y : X) → each_pair r xs ≡ true → list_all (λ x. r x y) xs ≡ true → each_pair r (xs ++ y ∷ []) ≡ true
pair-more r [] y h k = refl
pair-more r (x ∷ xs) y h k =
    and-both (list_all (r x) (xs ++ y ∷ [])) (each_pair r (xs ++ y ∷ []))
    (all-more (r x) xs y (and-first (list_all (r x) xs) (each_pair r xs) h) (and-first (r x y) (list_all (λ z. r z y) xs) k))
    (pair-more r xs y (and-second (list_all (r x) xs) (each_pair r xs) h) (and-second (r x y) (list_all (λ z. r z y) xs) k))

pub all-weaker-among : {X : Type 0} (g p q : X → Bool) (xs : List X) → ((x : X) → g x ≡ true → p x ≡ true → q x ≡ true) → list_all g xs ≡ true → list_all p xs ≡ true → list_all q xs ≡ true
all-weaker-among g p q [] w k h = refl
all-weaker-among g p q (x ∷ xs) w k h =
    and-both (q x) (list_all q xs) (w x (and-first (g x) (list_all g xs) k) (and-first (p x) (list_all p xs) h))
    (all-weaker-among g p q xs w (and-second (g x) (list_all g xs) k) (and-second (p x) (list_all p xs) h))

pub pair-weaker : {X : Type 0} (g : X → Bool) (r s : X → X → Bool) (xs : List X) → ((x y : X) → g x ≡ true → g y ≡ true → r x y ≡ true → s x y ≡ true) → list_all g xs ≡ true → each_pair r xs ≡ true → each_pair s xs ≡ true
pair-weaker g r s [] w k h = refl
pair-weaker g r s (x ∷ xs) w k h =
    and-both (list_all (s x) xs) (each_pair s xs)
    (all-weaker-among g (r x) (s x) xs (λ y. w x y (and-first (g x) (list_all g xs) k)) (and-second (g x) (list_all g xs) k) (and-first (list_all (r x) xs) (each_pair r xs) h))
    (pair-weaker g r s xs w (and-second (g x) (list_all g xs) k) (and-second (list_all (r x) xs) (each_pair r xs) h))

pub or-weaker : (a b c d : Bool) → (a ≡ true → c ≡ true) → (b ≡ true → d ≡ true) → (a || b) ≡ true → (c || d) ≡ true
or-weaker true b c d f g h = let e : c ≡ true = f refl in rw e refl
or-weaker false b true d f g h = refl
or-weaker false b false d f g h = g h

pub or-last : (b rest : Bool) → rest ≡ true → (b || rest) ≡ true
or-last true rest h = refl
or-last false rest h = h

pub any-last : {X : Type 0} (p : X → Bool) (xs : List X) (y : X) → p y ≡ true → list_any p (xs ++ y ∷ []) ≡ true
any-last p [] y h = rw h refl
any-last p (x ∷ xs) y h = or-last (p x) (list_any p (xs ++ y ∷ [])) (any-last p xs y h)

any-not_here : (b rest more : Bool) → (b || rest) ≡ false → (rest ≡ false → more ≡ false) → (b || more) ≡ false
any-not_here true rest more h later = absurd cc
any-not_here false rest more h later = later h

pub any-not_last : {X : Type 0} (p : X → Bool) (xs : List X) (y : X) → list_any p xs ≡ false → p y ≡ false → list_any p (xs ++ y ∷ []) ≡ false
any-not_last p [] y h k = rw k refl
any-not_last p (x ∷ xs) y h k = any-not_here (p x) (list_any p xs) (list_any p (xs ++ y ∷ [])) h (λ (e : list_any p xs ≡ false). any-not_last p xs y e k)

pub or-here : (b rest : Bool) → b ≡ true → (b || rest) ≡ true
or-here true rest h = refl
or-here false rest h = absurd cc

-- where no element passes, the one at this place does not
pub none-at : {X : Type 0} (p : X → Bool) (xs : List X) (k : ℕ) (d : X) → list_any p xs ≡ false → k < length xs → p (get_or xs k d) ≡ false
none-at p [] k d none within = absurd (omega arith)
none-at p (x ∷ xs) zero d none within = or-first (p x) (list_any p xs) none
none-at p (x ∷ xs) (suc k) d none within = none-at p xs k d (or-second (p x) (list_any p xs) none) (omega (arith, within))
