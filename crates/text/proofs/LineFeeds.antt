-- The first line feed of a text, as a search by vectors finds it.
use Rattle.std.proofs.Common.{◌≡◌, ℕ, ◌<◌, ◌≤◌, inl, inr, Bool, true, List, length, slice_index, Option, Some, None, sym, ap, ◌∙◌, subst, arith}
use Rattle.std.specs.Prelude.{IfSome, cond}
use Rattle.std.specs.List.{position, position_or_len}
use Rattle.std.proofs.lemmas.Bool.{cases_lt, false≢true, lt-ltb, le-ltb}
use Rattle.std.proofs.lemmas.List.Sums.{fails_before_first, passes_at_first}
use Rattle.memchr.specs.Find.{IsFirstByte}

module _ (p : ℕ → Bool) (text : List ℕ) where
  abbrev first : ℕ
  first = position_or_len p text

  found_at : first < length text → position p text ≡ Some first
  found_at lt = ap (λ (b : Bool). cond b (Some first) None) (lt-ltb first (length text) lt)

  -- a place that passes, before which none does
  same_place : (k : ℕ) → k < length text → p (slice_index text k) ≡ true → ((j : ℕ) → 0 ≤ j → j < k → p (slice_index text j) ≡ true → ⊥) → first ≡ k
  same_place k lt passes before =
      elim (cases_lt first k) [
        | inl less ↦ absurd (before first (omega arith) less (passes_at_first p text 0 (omega (arith, less, lt))))
        | inr most ↦
            elim (cases_lt k first) [
              | inl late ↦ absurd (false≢true (sym (fails_before_first p text k 0 late) ∙ passes))
              | inr least ↦ omega (arith, most, least)
            ]
      ]

  pub first_place : (r : Option ℕ) → IsFirstByte p text r → r ≡ position p text
  first_place None none =
      elim (cases_lt first (length text)) [
        | inl lt ↦ absurd (none first (omega arith) lt (passes_at_first p text 0 lt))
        | inr all ↦ sym (ap (λ (b : Bool). cond b (Some first) None) (le-ltb first (length text) all))
      ]
  first_place (Some k) found =
      let same = same_place k found.0.high found.1 found.0.before in
      ap Some (sym same) ∙ sym (found_at (subst (λ (x : ℕ). x < length text) (sym same) found.0.high))

  pub place_within : (r : Option ℕ) → IsFirstByte p text r → IfSome r (λ k. k < length text)
  place_within None none = tt
  place_within (Some k) found = found.0.high
