-- Numbers are read back from their digits.
use Rattle.std.proofs.Common.{◌≡◌, ℕ, ◌+◌, ◌*◌, ◌/◌, ◌%◌, ◌<◌, ◌≤◌, ◌^◌, cond, refl, ap, ◌∙◌, List, [], ◌∷◌, ◌++◌, length, Option, Some, None, nat_lt, arith}
use Rattle.std.specs.Prelude.{option_and_then}
use Rattle.std.specs.Fmt.{decimal}
use Rattle.std.proofs.lemmas.Bool.{cond-true, and_from, le-leb, lt-ltb}
use Rattle.std.proofs.lemmas.Bool.Decides.{nat_tests}
use Rattle.std.proofs.lemmas.Fmt.{decimal_by_steps, decimal_nonempty, length-decimal-le}
use Rattle.text.specs.Text.{decimal_digit, digits, wide_decimal}

digit_read : (d : ℕ) → d < 10 → decimal_digit (48 + d) ≡ Some d
digit_read d small = grind (arith, nat_tests)

-- one digit more behind the others
abbrev last : ℕ → ℕ → Option ℕ
last c high = option_and_then (λ d. Some (high * 10 + d)) (decimal_digit c)

digits_more : (high c : ℕ) (ds : List ℕ) → digits decimal_digit 10 high (ds ++ (c ∷ [])) ≡ option_and_then (last c) (digits decimal_digit 10 high ds)
digits_more high c [] = refl
digits_more high c (b ∷ ds) = go (decimal_digit b) (λ d. digits_more (high * 10 + d) c ds)
  where
    go : (o : Option ℕ) → ((d : ℕ) → digits decimal_digit 10 (high * 10 + d) (ds ++ (c ∷ [])) ≡ option_and_then (last c) (digits decimal_digit 10 (high * 10 + d) ds))
        → option_and_then (λ d. digits decimal_digit 10 (high * 10 + d) (ds ++ (c ∷ []))) o ≡ option_and_then (last c) (option_and_then (λ d. digits decimal_digit 10 (high * 10 + d) ds) o)
    go None each = refl
    go (Some d) each = each d

abbrev IsSpelled : ℕ → List ℕ → Type 0
IsSpelled n ds = digits decimal_digit 10 0 ds ≡ Some n

spelled_one : (n : ℕ) → n < 10 → IsSpelled n ((48 + n) ∷ [])
spelled_one n small = let same : 0 * 10 + n ≡ n = omega arith in ap (option_and_then (λ d. Some (0 * 10 + d))) (digit_read n small) ∙ ap (λ (m : ℕ). Some m) same

spelled_more : (n : ℕ) (ds : List ℕ) → 10 ≤ n → IsSpelled (n / 10) ds → IsSpelled n (ds ++ ((48 + n % 10) ∷ []))
spelled_more n ds big front =
    let same : n / 10 * 10 + n % 10 ≡ n = omega arith in
    digits_more 0 (48 + n % 10) ds
    ∙ ap (option_and_then (last (48 + n % 10))) front
    ∙ ap (option_and_then (λ d. Some (n / 10 * 10 + d))) (digit_read (n % 10) (omega arith))
    ∙ ap (λ (m : ℕ). Some m) same

pub digits_spelled : (n : ℕ) → n < 2 ^ 64 → IsSpelled n (decimal n)
digits_spelled n small = decimal_by_steps IsSpelled spelled_one spelled_more n small

abbrev fits : ℕ → Option ℕ
fits n = cond (nat_lt n (2 ^ 64)) (Some n) None

pub number_read : (n : ℕ) → n < 2 ^ 64 → wide_decimal (decimal n) ≡ Some n
unfolding wide_decimal
number_read n small =
    let some = decimal_nonempty n small in
    let few = length-decimal-le 20 n (omega arith) (omega (arith, small)) small in
    ap (option_and_then fits)
    (cond-true _ (digits decimal_digit 10 0 (decimal n)) None (and_from _ _ (le-leb 1 (length (decimal n)) (omega (arith, some))) (le-leb (length (decimal n)) 20 few)) ∙ digits_spelled n small)
    ∙ cond-true _ (Some n) None (lt-ltb n (2 ^ 64) small)
