-- The first of the seven causes to which a test answers true is the one with the least number.
use Rattle.std.proofs.Common.{◌≡◌, ℕ, zero, suc, ◌+◌, ◌<◌, Bool, true, false, cond, Option, Some, None, inl, inr, refl, sym, ap, ◌∙◌, arith, lit<}
use Rattle.std.proofs.lemmas.Bool.{cases_lt, false≢true}
use Rattle.fab_types.specs.declared.faults.malformed.Malformed.{Malformed}
use Rattle.fab_types.specs.declared.faults.malformed.Malformed.TheVariants.{Short, Kind, Size, Enables, Crosses, HighForm, Field}
use Rattle.fab_types.specs.Faults.{malformed_number}

-- the cause with a number
named : ℕ → Malformed
named zero = Short
named (suc zero) = Short
named (suc (suc zero)) = Kind
named (suc (suc (suc zero))) = Size
named (suc (suc (suc (suc zero)))) = Enables
named (suc (suc (suc (suc (suc zero))))) = Crosses
named (suc (suc (suc (suc (suc (suc zero)))))) = HighForm
named (suc (suc (suc (suc (suc (suc (suc n))))))) = Field

named_again : (cause : Malformed) → named (malformed_number cause) ≡ cause
unfolding named
named_again Short = refl
named_again Kind = refl
named_again Size = refl
named_again Enables = refl
named_again Crosses = refl
named_again HighForm = refl
named_again Field = refl

is_positive : (cause : Malformed) → 0 < malformed_number cause
is_positive Short = lit< tt
is_positive Kind = lit< tt
is_positive Size = lit< tt
is_positive Enables = lit< tt
is_positive Crosses = lit< tt
is_positive HighForm = lit< tt
is_positive Field = lit< tt

is_small : (cause : Malformed) → malformed_number cause < 8
is_small Short = lit< tt
is_small Kind = lit< tt
is_small Size = lit< tt
is_small Enables = lit< tt
is_small Crosses = lit< tt
is_small HighForm = lit< tt
is_small Field = lit< tt

-- the first cause that the test takes
abbrev pub first : (Malformed → Bool) → Option Malformed
first test =
    cond (test Short) (Some Short)
    (cond (test Kind) (Some Kind)
    (cond (test Size) (Some Size)
    (cond (test Enables) (Some Enables)
    (cond (test Crosses) (Some Crosses)
    (cond (test HighForm) (Some HighForm)
    (cond (test Field) (Some Field) None))))))

module _ (test : Malformed → Bool) where
  -- the test takes none with a number below this
  abbrev NoneBelow : ℕ → Type 0
  NoneBelow n = (other : Malformed) → malformed_number other < n → test other ≡ false

  -- what there is to say of the first one: it has the least number, or there is none
  abbrev pub Found : Option Malformed → Type 0
  Found None = (cause : Malformed) → test cause ≡ false
  Found (Some cause) = (test cause ≡ true) × NoneBelow (malformed_number cause)

  none_before : NoneBelow 1
  none_before other l = let more = is_positive other in absurd (omega (arith, l, more))

  more : (cause : Malformed) → test cause ≡ false → NoneBelow (malformed_number cause) → NoneBelow (malformed_number cause + 1)
  more cause here below other l = elim (cases_lt (malformed_number other) (malformed_number cause)) [
    | inl w ↦ below other w
    | inr w ↦ (
        let same : malformed_number other ≡ malformed_number cause = omega (arith, l, w) in
        ap test (sym (named_again other) ∙ ap named same ∙ named_again cause) ∙ here)
  ]

  -- the cause is the first, or what comes behind it
  or_behind : (cause : Malformed) (rest : Option Malformed) → NoneBelow (malformed_number cause) → (NoneBelow (malformed_number cause + 1) → Found rest) → (b : Bool) → test cause ≡ b → Found (cond b (Some cause) rest)
  or_behind cause rest below found true is = (is, below)
  or_behind cause rest below found false is = found (more cause is below)

  pub first_found : Found (first test)
  first_found =
      or_behind Short _ none_before (λ none_1.
      or_behind Kind _ none_1 (λ none_2.
      or_behind Size _ none_2 (λ none_3.
      or_behind Enables _ none_3 (λ none_4.
      or_behind Crosses _ none_4 (λ none_5.
      or_behind HighForm _ none_5 (λ none_6.
      or_behind Field _ none_6 (λ none_7. λ cause. none_7 cause (is_small cause))
      (test Field) refl) (test HighForm) refl) (test Crosses) refl) (test Enables) refl) (test Size) refl) (test Kind) refl) (test Short) refl

  -- and there is one at most
  pub one_of : (one other : Malformed) → Found (Some one) → Found (Some other) → one ≡ other
  one_of one other a b = elim (cases_lt (malformed_number one) (malformed_number other)) [
    | inl w ↦ absurd (false≢true (sym (b.1 one w) ∙ a.0))
    | inr w ↦ elim (cases_lt (malformed_number other) (malformed_number one)) [
      | inl v ↦ absurd (false≢true (sym (a.1 other v) ∙ b.0))
      | inr v ↦ (
          let same : malformed_number one ≡ malformed_number other = omega (arith, w, v) in
          sym (named_again one) ∙ ap named same ∙ named_again other)
    ]
  ]
