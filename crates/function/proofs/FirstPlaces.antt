-- The first function of an ID stands where the first of its bus does, or behind it.
use Rattle.std.proofs.Common.{◌≡◌, ℕ, zero, suc, ◌+◌, ◌≤◌, ◌<◌, ◌==◌, Bool, true, false, cond, List, [], ◌∷◌, length, get_or, Option, Some, None, refl, ap, arith, eqb-true, eq-eqb}
use Rattle.std.specs.Prelude.{not, nat_lt}
use Rattle.std.specs.List.{position, position_or_len}
use Rattle.std.proofs.lemmas.Bool.{le-ltb, lt-ltb, ltb-false}
use Rattle.std.proofs.lemmas.Grind.{common_steps}
use Rattle.std.proofs.lemmas.List.Quantifiers.{position-Some}
use Rattle.fab_types.specs.Id.{bus_of}
use Rattle.function.specs.Functions.{first_on_bus}

later : (a b : Bool) (m n : ℕ) → (b ≡ true → a ≡ true) → m ≤ n → cond (not a) (1 + m) 0 ≤ cond (not b) (1 + n) 0
later true b m n h le = omega arith
later false true m n h le = let e = h refl in absurd cc
later false false m n h le = omega (arith, le)

not-sooner : {X : Type 0} (p q : X → Bool) (xs : List X) → ((x : X) → q x ≡ true → p x ≡ true) → position_or_len p xs ≤ position_or_len q xs
not-sooner p q [] h = omega arith
not-sooner p q (x ∷ xs) h = later (p x) (q x) (position_or_len p xs) (position_or_len q xs) (h x) (not-sooner p q xs h)

here : (b : Bool) (n : ℕ) → b ≡ true → cond (not b) (1 + n) 0 ≤ 0
here true n e = omega arith
here false n e = absurd cc

onward : (b : Bool) (n i : ℕ) → n ≤ i → cond (not b) (1 + n) 0 ≤ suc i
onward true n i le = omega arith
onward false n i le = omega (arith, le)

at-most : {X : Type 0} (q : X → Bool) (xs : List X) (i : ℕ) (d : X) → i < length xs → q (get_or xs i d) ≡ true → position_or_len q xs ≤ i
at-most q [] i d lt e = absurd (omega (arith, lt))
at-most q (x ∷ xs) zero d lt e = here (q x) (position_or_len q xs) e
at-most q (x ∷ xs) (suc i) d lt e = onward (q x) (position_or_len q xs) i (at-most q xs i d (omega (arith, lt)) e)

past : (n m : ℕ) (b : Bool) → nat_lt n m ≡ b → cond {A = Option ℕ} b (Some n) None ≡ None → m ≤ n
past n m true is e = absurd cc
past n m false is e = ltb-false n m is

position-none : {X : Type 0} (p q : X → Bool) (xs : List X) → ((x : X) → q x ≡ true → p x ≡ true) → position p xs ≡ None → position q xs ≡ None
position-none p q xs h e =
    let long = past (position_or_len p xs) (length xs) (nat_lt (position_or_len p xs) (length xs)) refl e in
    let none = le-ltb (position_or_len q xs) (length xs) (omega (arith, long, not-sooner p q xs h)) in
    rw none refl

position-same : {X : Type 0} (p q : X → Bool) (xs : List X) (i : ℕ) (d : X) → ((x : X) → q x ≡ true → p x ≡ true) → position p xs ≡ Some i → q (get_or xs i d) ≡ true → position q xs ≡ Some i
position-same p q xs i d h e is =
    let at : position_or_len p xs ≡ i = grind (arith, common_steps) in
    let within = (position-Some p xs i d e).0 in
    let same : position_or_len q xs ≡ i = omega (arith, at, not-sooner p q xs h, at-most q xs i d within is) in
    rw (same, lt-ltb i (length xs) within) refl

on-its-bus : (id : ℕ) (f : ℕ × List ℕ) → (f.0 == id) ≡ true → (bus_of f.0 == bus_of id) ≡ true
on-its-bus id f e = eq-eqb (bus_of f.0) (bus_of id) (ap bus_of (eqb-true f.0 id e))

-- without a function of its bus there is none of the ID
pub none_of_bus : (functions : List (ℕ × List ℕ)) (id : ℕ) → first_on_bus functions (bus_of id) ≡ None → position (λ f. f.0 == id) functions ≡ None
none_of_bus functions id = position-none (λ f. bus_of f.0 == bus_of id) (λ f. f.0 == id) functions (on-its-bus id)

-- where the first function of its bus has the ID, it is the first that does
pub first_of_bus : (functions : List (ℕ × List ℕ)) (id i : ℕ) (d : ℕ × List ℕ) → first_on_bus functions (bus_of id) ≡ Some i → ((get_or functions i d).0 == id) ≡ true → position (λ f. f.0 == id) functions ≡ Some i
first_of_bus functions id i d = position-same (λ f. bus_of f.0 == bus_of id) (λ f. f.0 == id) functions i d (on-its-bus id)
