-- The runs from one place on, found by passing disabled bytes and then a whole run.
use Rattle.std.proofs.Common.{◌≡◌, ℕ, zero, suc, ◌+◌, ◌-◌, ◌<◌, ◌≤◌, Bool, true, false, cond, eqb, List, [], ◌∷◌, length, get_or, take, drop, refl, sym, ap, ◌∙◌, add-zero, inl, inr, arith}
use Rattle.std.proofs.lemmas.Bool.{cond-true, cond-false, eq-eqb, ne_eqb, cases_lt, both_ways}
use Rattle.std.proofs.lemmas.List.{drop_more, drop_all}
use Rattle.tlp_view.specs.Runs.{joined, runs_from}

-- the first of these runs, if there is one, begins no earlier
abbrev Begins : ℕ → List (ℕ × List ℕ) → Type 0
Begins from [] = Unit {0}
Begins from (run ∷ runs) = from ≤ run.0

Begins-less : (i j : ℕ) (runs : List (ℕ × List ℕ)) → i ≤ j → Begins j runs → Begins i runs
Begins-less i j [] l h = tt
Begins-less i j (run ∷ runs) l h = omega (arith, h)

Begins-cond : (b : Bool) (i n : ℕ) (x y : List ℕ) (r s : List (ℕ × List ℕ)) → Begins i (cond b ((i, x) ∷ r) ((i, y) ∷ s))
Begins-cond true i n x y r s = omega arith
Begins-cond false i n x y r s = omega arith

Begins-joined : (i byte : ℕ) (runs : List (ℕ × List ℕ)) → Begins i (joined i byte runs)
Begins-joined i byte [] = omega arith
Begins-joined i byte (run ∷ runs) = Begins-cond (eqb run.0 (i + 1)) i 0 (byte ∷ run.1) (byte ∷ []) runs (run ∷ runs)

Begins-step : (b : Bool) (i byte : ℕ) (runs : List (ℕ × List ℕ)) → Begins (i + 1) runs → Begins i (cond b (joined i byte runs) runs)
Begins-step true i byte runs h = Begins-joined i byte runs
Begins-step false i byte runs h = Begins-less i (i + 1) runs (omega arith) h

Begins-runs_from : (p : ℕ → Bool) (i : ℕ) (bytes : List ℕ) → Begins i (runs_from p i bytes)
Begins-runs_from p i [] = tt
Begins-runs_from p i (byte ∷ bytes) = Begins-step (p i) i byte (runs_from p (i + 1) bytes) (Begins-runs_from p (i + 1) bytes)

joined-apart : (i byte : ℕ) (runs : List (ℕ × List ℕ)) → Begins (i + 2) runs → joined i byte runs ≡ (i, byte ∷ []) ∷ runs
joined-apart i byte [] h = refl
joined-apart i byte (run ∷ runs) h = cond-false (eqb run.0 (i + 1)) _ _ (ne_eqb run.0 (i + 1) (λ e. omega (arith, h, e)))

joined-next : (i byte : ℕ) (part : List ℕ) (runs : List (ℕ × List ℕ)) → joined i byte ((i + 1, part) ∷ runs) ≡ (i, byte ∷ part) ∷ runs
joined-next i byte part runs = cond-true (eqb (i + 1) (i + 1)) _ _ (eq-eqb (i + 1) (i + 1) refl)

module _ (p : ℕ → Bool) (xs : List ℕ) where
  -- one byte of the payload
  disabled : (i : ℕ) → i < length xs → p i ≡ false → runs_from p i (drop i xs) ≡ runs_from p (i + 1) (drop (i + 1) xs)
  disabled i l e = ap (runs_from p i) (drop_more xs i 0 l) ∙ cond-false (p i) _ _ e

  enabled : (i : ℕ) → i < length xs → p i ≡ true → runs_from p i (drop i xs) ≡ joined i (get_or xs i 0) (runs_from p (i + 1) (drop (i + 1) xs))
  enabled i l e = ap (runs_from p i) (drop_more xs i 0 l) ∙ cond-true (p i) _ _ e

  -- no run begins where a byte is disabled, or where none is left
  Begins-later : (i : ℕ) → i ≤ length xs → (i < length xs → p i ≡ false) → Begins (i + 1) (runs_from p i (drop i xs))
  Begins-later i l h = elim (cases_lt i (length xs)) [
    | inl w ↦ (rw (disabled i w (h w)) (Begins-runs_from p (i + 1) (drop (i + 1) xs)))
    | inr w ↦ (rw (drop_all i xs w) tt)
  ]

  skip_by : (n i : ℕ) → i + n ≤ length xs → ((k : ℕ) → i ≤ k → k < i + n → p k ≡ false) → runs_from p i (drop i xs) ≡ runs_from p (i + n) (drop (i + n) xs)
  skip_by zero i l h = rw add-zero refl
  skip_by (suc n) i l h =
      let first = disabled i (omega arith) (h i (omega arith) (omega arith)) in
      let others = skip_by n (i + 1) (omega arith) (λ k low high. h k (omega arith) (omega arith)) in
      let e : i + 1 + n ≡ i + suc n = omega arith in
      first ∙ others ∙ ap (λ m. runs_from p m (drop m xs)) e

  run_by : (n i : ℕ) → i + suc n ≤ length xs → ((k : ℕ) → i ≤ k → k < i + suc n → p k ≡ true) → (i + suc n < length xs → p (i + suc n) ≡ false)
      → runs_from p i (drop i xs) ≡ (i, take (suc n) (drop i xs)) ∷ runs_from p (i + suc n) (drop (i + suc n) xs)
  run_by zero i l h last =
      let first = enabled i (omega arith) (h i (omega arith) (omega arith)) in
      let e : i + 1 ≡ i + suc zero = omega arith in
      let later = Begins-later (i + 1) (omega arith) last in
      let two : i + 1 + 1 ≡ i + 2 = omega arith in
      let part : take 1 (drop i xs) ≡ get_or xs i 0 ∷ [] = rw (drop_more xs i 0 (omega arith)) refl in
      first ∙ joined-apart i (get_or xs i 0) _ (rw two at later) ∙ ap (λ part. (i, part) ∷ runs_from p (i + 1) (drop (i + 1) xs)) (sym part)
  run_by (suc n) i l h last =
      let first = enabled i (omega arith) (h i (omega arith) (omega arith)) in
      let e : i + 1 + suc n ≡ i + suc (suc n) = omega arith in
      let others = run_by n (i + 1) (omega arith) (λ k low high. h k (omega arith) (omega arith)) (rw e last) in
      let part : take (suc (suc n)) (drop i xs) ≡ get_or xs i 0 ∷ take (suc n) (drop (i + 1) xs) = rw (drop_more xs i 0 (omega arith)) refl in
      first ∙ ap (joined i (get_or xs i 0)) others ∙ joined-next i (get_or xs i 0) _ _
      ∙ ap (λ part. (i, part) ∷ runs_from p (i + 1 + suc n) (drop (i + 1 + suc n) xs)) (sym part)
      ∙ ap (λ m. (i, take (suc (suc n)) (drop i xs)) ∷ runs_from p m (drop m xs)) e

  pub runs_from-skip : (i j : ℕ) → i ≤ j → j ≤ length xs → ((k : ℕ) → i ≤ k → k < j → p k ≡ false) → runs_from p i (drop i xs) ≡ runs_from p j (drop j xs)
  runs_from-skip i j l m h =
      let e : i + (j - i) ≡ j = omega arith in
      skip_by (j - i) i (omega arith) (rw e h) ∙ ap (λ m. runs_from p m (drop m xs)) e

  pub runs_from-run : (i j : ℕ) → i < j → j ≤ length xs → ((k : ℕ) → i ≤ k → k < j → p k ≡ true) → (j < length xs → p j ≡ false)
      → runs_from p i (drop i xs) ≡ (i, take (j - i) (drop i xs)) ∷ runs_from p j (drop j xs)
  runs_from-run i j l m h last =
      let e : i + suc (j - i - 1) ≡ j = omega arith in
      let f : suc (j - i - 1) ≡ j - i = omega arith in
      run_by (j - i - 1) i (omega arith) (rw e h) (rw e last)
      ∙ ap (λ m. (i, take (suc (j - i - 1)) (drop i xs)) ∷ runs_from p m (drop m xs)) e
      ∙ ap (λ m. (i, take m (drop i xs)) ∷ runs_from p j (drop j xs)) f

  pub runs_from-end : (i : ℕ) → length xs ≤ i → runs_from p i (drop i xs) ≡ []
  runs_from-end i l = ap (runs_from p i) (drop_all i xs l)

-- one call of the iterator, that found a run from start to end or came to the end of the payload
module _ (p : ℕ → Bool) (xs : List ℕ) (at start : ℕ) (low : at ≤ start) (high : start ≤ length xs) (before : (k : ℕ) → at ≤ k → k < start → p k ≡ false) where
  pub next_none : start ≡ length xs → runs_from p at (drop at xs) ≡ []
  next_none e = runs_from-skip p xs at start low high before ∙ runs_from-end p xs start (omega arith)

  pub next_some : (end : ℕ) → (start < length xs → p start ≡ true) → start ≤ end → end ≤ length xs → ((k : ℕ) → start ≤ k → k < end → p k ≡ true) → (end < length xs → p end ≡ false) → (start ≡ length xs → ⊥)
      → runs_from p at (drop at xs) ≡ (start, take (end - start) (drop start xs)) ∷ runs_from p end (drop end xs)
  next_some end here start_le end_le within after more =
      let inside : start < length xs = omega arith in
      let moved : start ≡ end → ⊥ = λ e. both_ways (p start) (rw (← e) at after inside) (here inside) in
      runs_from-skip p xs at start low high before ∙ runs_from-run p xs start end (omega arith) end_le within after
