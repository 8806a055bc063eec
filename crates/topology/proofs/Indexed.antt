-- A search that begins at the first element of a bus finds what a search of the whole list does.
use Rattle.std.proofs.Common.{◌≡◌, ℕ, suc, ◌+◌, ◌-◌, ◌<◌, ◌≤◌, ◌==◌, ◌⊎◌, inl, inr, Bool, true, false, cond, List, [], ◌∷◌, length, map, get_or, drop, take, not, nat_lt, option_map, Option, Some, None, refl, sym, ap, ◌∙◌, arith, eqb-true, eq-eqb, lt-ltb, le-ltb}
use Rattle.std.specs.List.{find, position, position_or_len}
use Rattle.std.specs.Option.{unwrap_or}
use Rattle.std.proofs.lemmas.Bool.{cases_lt}
use Rattle.std.proofs.lemmas.List.{length-drop, take_rest}
use Rattle.std.proofs.lemmas.List.FromFn.{get_or-map-range_with_len, length-map-range_with_len}
use Rattle.topology.specs.FirstIndexes.{first_on, firsts_of}

-- the first that passes, or the end
pub first_within : {X : Type 0} (p : X → Bool) (xs : List X) → position_or_len p xs ≤ length xs
first_within p [] = omega arith
first_within {X} p (x ∷ xs) = go (p x) (first_within p xs)
  where
    go : (b : Bool) → position_or_len p xs ≤ length xs → cond (not b) (1 + position_or_len p xs) 0 ≤ suc (length xs)
    go true h = omega arith
    go false h = omega arith

first_or_end : {X : Type 0} (p : X → Bool) (xs : List X) → unwrap_or (position p xs) (length xs) ≡ position_or_len p xs
first_or_end {X} p xs = go (cases_lt (position_or_len p xs) (length xs))
  where
    go : (position_or_len p xs < length xs) ⊎ (length xs ≤ position_or_len p xs) → unwrap_or (position p xs) (length xs) ≡ position_or_len p xs
    go (inl less) = ap (λ (b : Bool). unwrap_or (cond {A = Option ℕ} b (Some (position_or_len p xs)) None) (length xs)) (lt-ltb (position_or_len p xs) (length xs) less)
    go (inr past) =
        let within = first_within p xs in
        ap (λ (b : Bool). unwrap_or (cond {A = Option ℕ} b (Some (position_or_len p xs)) None) (length xs)) (le-ltb (position_or_len p xs) (length xs) past) ∙ omega arith

first_mapped : {X Y : Type 0} (f : X → Y) (p : Y → Bool) (xs : List X) → position_or_len p (map f xs) ≡ position_or_len (λ x. p (f x)) xs
first_mapped f p [] = refl
first_mapped f p (x ∷ xs) = ap (λ (n : ℕ). cond (not (p (f x))) (1 + n) 0) (first_mapped f p xs)

fails_too : (b c : Bool) → (b ≡ true → c ≡ true) → c ≡ false → b ≡ false
fails_too true c h fails = let passes = h refl in absurd cc
fails_too false c h fails = refl

-- the number of an element, by its number among those from a start on
number_after : (start n all : ℕ) → start ≤ all → cond (nat_lt (start + n) all) (Some (start + n)) None ≡ option_map (λ k. start + k) (cond (nat_lt n (all - start)) (Some n) None)
number_after start n all within = go (cases_lt n (all - start))
  where
    go : (n < all - start) ⊎ (all - start ≤ n) → cond (nat_lt (start + n) all) (Some (start + n)) None ≡ option_map (λ k. start + k) (cond (nat_lt n (all - start)) (Some n) None)
    go (inl less) =
        ap (λ (b : Bool). cond {A = Option ℕ} b (Some (start + n)) None) (lt-ltb (start + n) all (omega arith))
        ∙ sym (ap (λ (b : Bool). option_map (λ k. start + k) (cond {A = Option ℕ} b (Some n) None)) (lt-ltb n (all - start) less))
    go (inr past) =
        ap (λ (b : Bool). cond {A = Option ℕ} b (Some (start + n)) None) (le-ltb (start + n) all (omega arith))
        ∙ sym (ap (λ (b : Bool). option_map (λ k. start + k) (cond {A = Option ℕ} b (Some n) None)) (le-ltb n (all - start) past))

-- What passes the first test passes the second, so that it stands no earlier than the first that passes the second.
module _ {X : Type 0} (p q : X → Bool) (implies : (x : X) → p x ≡ true → q x ≡ true) where
  found_from : (xs : List X) → find p (drop (position_or_len q xs) xs) ≡ find p xs
  found_from [] = refl
  found_from (x ∷ xs) = go (q x) refl (found_from xs)
    where
      go : (b : Bool) → q x ≡ b → find p (drop (position_or_len q xs) xs) ≡ find p xs → find p (drop (cond (not b) (1 + position_or_len q xs) 0) (x ∷ xs)) ≡ find p (x ∷ xs)
      go true e h = refl
      go false e h =
          let next : 1 + position_or_len q xs ≡ suc (position_or_len q xs) = omega arith in
          ap (λ (n : ℕ). find p (drop n (x ∷ xs))) next ∙ h ∙ sym (ap (λ (b : Bool). cond b (Some x) (find p xs)) (fails_too (p x) (q x) (implies x) e))

  number_from : (xs : List X) → position_or_len p xs ≡ position_or_len q xs + position_or_len p (drop (position_or_len q xs) xs)
  number_from [] = refl
  number_from (x ∷ xs) = go (q x) refl (number_from xs)
    where
      go : (b : Bool) → q x ≡ b → position_or_len p xs ≡ position_or_len q xs + position_or_len p (drop (position_or_len q xs) xs)
          → position_or_len p (x ∷ xs) ≡ cond (not b) (1 + position_or_len q xs) 0 + position_or_len p (drop (cond (not b) (1 + position_or_len q xs) 0) (x ∷ xs))
      go true e h = omega arith
      go false e h =
          let next : 1 + position_or_len q xs ≡ suc (position_or_len q xs) = omega arith in
          let rest : position_or_len p (drop (1 + position_or_len q xs) (x ∷ xs)) ≡ position_or_len p (drop (position_or_len q xs) xs) = ap (λ (n : ℕ). position_or_len p (drop n (x ∷ xs))) next in
          let more : position_or_len p (x ∷ xs) ≡ 1 + position_or_len p xs = ap (λ (b : Bool). cond (not b) (1 + position_or_len p xs) 0) (fails_too (p x) (q x) (implies x) e) in
          omega (arith, h, rest, more)

  position_from : (xs : List X) → position p xs ≡ option_map (λ k. position_or_len q xs + k) (position p (drop (position_or_len q xs) xs))
  position_from xs =
      let start = position_or_len q xs in
      let n = position_or_len p (drop start xs) in
      ap (λ (k : ℕ). cond {A = Option ℕ} (nat_lt k (length xs)) (Some k) None) (number_from xs)
      ∙ number_after start n (length xs) (first_within q xs)
      ∙ ap (λ (k : ℕ). option_map (λ i. start + i) (cond {A = Option ℕ} (nat_lt n k) (Some n) None)) (sym (length-drop start xs))

-- ---- by a key

pub first_on_is : (keys : List ℕ) (key : ℕ) → unwrap_or (position (λ other. other == key) keys) (length keys) ≡ first_on keys key
first_on_is keys key = first_or_end (λ other. other == key) keys

-- an index has a place for each key
pub many_firsts : (count : ℕ) (keys : List ℕ) → length (firsts_of count keys) ≡ count
many_firsts count keys = length-map-range_with_len (first_on keys) 0 count

-- what the index of a list has for a key
pub indexed : {X : Type 0} (key_in : X → ℕ) (xs : List X) (count key : ℕ) → key < count → get_or (firsts_of count (map key_in xs)) key 0 ≡ position_or_len (λ x. key_in x == key) xs
indexed key_in xs count key in_range = get_or-map-range_with_len (first_on (map key_in xs)) 0 count key key 0 in_range (omega arith) ∙ first_mapped key_in (λ other. other == key) xs

-- from the first element that has the key of an ID on, the ID is found as in the whole list
module _ {X : Type 0} (key_of : ℕ → ℕ) (id_of : X → ℕ) (xs : List X) (id start key : ℕ) (key_is : key ≡ key_of id) (starts : start ≡ position_or_len (λ x. key_of (id_of x) == key) xs) where
  same_key : (one other : ℕ) → (one == other) ≡ true → (key_of one == key_of other) ≡ true
  same_key one other h = eq-eqb _ _ (ap key_of (eqb-true one other h))

  starts_at : start ≡ position_or_len (λ x. key_of (id_of x) == key_of id) xs
  starts_at = starts ∙ ap (λ (b : ℕ). position_or_len (λ x. key_of (id_of x) == b) xs) key_is

  after : (ys : List X) → ys ≡ xs → take (length ys - start) (drop start ys) ≡ drop (position_or_len (λ x. key_of (id_of x) == key_of id) xs) xs
  after ys same = ap (λ (zs : List X). take (length zs - start) (drop start zs)) same ∙ take_rest xs start ∙ ap (λ (n : ℕ). drop n xs) starts_at

  pub found_from_key : (ys : List X) → ys ≡ xs → find (λ x. id_of x == id) (take (length ys - start) (drop start ys)) ≡ find (λ x. id_of x == id) xs
  found_from_key ys same = ap (find (λ x. id_of x == id)) (after ys same)
      ∙ found_from (λ x. id_of x == id) (λ x. key_of (id_of x) == key_of id) (λ x h. same_key (id_of x) id h) xs

  pub numbered_from_key : (ys : List X) (found : Option ℕ) → ys ≡ xs → found ≡ position (λ x. id_of x == id) (take (length ys - start) (drop start ys)) → option_map (λ k. start + k) found ≡ position (λ x. id_of x == id) xs
  numbered_from_key ys found same e =
      ap (option_map (λ k. start + k)) (e ∙ ap (position (λ x. id_of x == id)) (after ys same))
      ∙ ap (λ (n : ℕ). option_map (λ k. n + k) (position (λ x. id_of x == id) (drop (position_or_len (λ x. key_of (id_of x) == key_of id) xs) xs))) starts_at
      ∙ sym (position_from (λ x. id_of x == id) (λ x. key_of (id_of x) == key_of id) (λ x h. same_key (id_of x) id h) xs)
