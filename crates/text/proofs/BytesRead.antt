-- Bytes are read back from their digits.
use Rattle.std.proofs.Common.{◌≡◌, ℕ, suc, ◌/◌, ◌%◌, ◌<◌, Bool, true, false, refl, ap, sym, ◌∙◌, List, [], ◌∷◌, length, get_or, Some, None, arith}
use Rattle.std.specs.Prelude.{slice_index}
use Rattle.std.specs.List.{list_all}
use Rattle.std.specs.Result.{result_ok}
use Rattle.std.proofs.lemmas.Bool.{and_from, cond-true, eq-eqb, lt-ltb}
use Rattle.std.proofs.lemmas.List.Folds.{list_all_at}
use Rattle.hex.specs.Hex.{IsBytes, decode_of, encode_lower, encode_with, lower_digits}
use Rattle.hex.proofs.HexLemmas.{decode_of-encode_lower, length-encode_with}
use Rattle.text.specs.Bytes.{hex_bytes, is_hexadecimal, is_lower_digit}

each : (p : ℕ → Bool) (xs : List ℕ) (i : ℕ) → list_all p xs ≡ true → i < length xs → p (get_or xs i 0) ≡ true
each p xs i all below = go (p (get_or xs i 0)) (λ none. list_all_at p xs i 0 below none)
  where
    go : (b : Bool) → (b ≡ false → list_all p xs ≡ false) → b ≡ true
    go true h = refl
    go false h = let clash : true ≡ false = sym all ∙ h refl in absurd cc

lower_ones : list_all is_lower_digit lower_digits ≡ true
lower_ones = refl

digit_lower : (d : ℕ) → d < 16 → is_lower_digit (slice_index lower_digits d) ≡ true
digit_lower d small = each is_lower_digit lower_digits d lower_ones small

pub digits_lower : (bytes : List ℕ) → IsBytes bytes → list_all is_lower_digit (encode_lower bytes) ≡ true
unfolding encode_with
digits_lower [] are = refl
digits_lower (b ∷ bytes) are =
    let small : b < 256 = are 0 in
    and_from _ _ (digit_lower (b / 16) (omega (arith, small))) (and_from _ _ (digit_lower (b % 16) (omega arith)) (digits_lower bytes (λ i. are (suc i))))

hexadecimal_bytes : (bytes : List ℕ) → IsBytes bytes → 0 < length bytes → is_hexadecimal (encode_lower bytes) ≡ true
hexadecimal_bytes bytes are some =
    let twice = length-encode_with lower_digits bytes in
    and_from _ _ (and_from _ _ (lt-ltb 0 (length (encode_lower bytes)) (omega (arith, twice, some))) (eq-eqb (length (encode_lower bytes) % 2) 0 (omega (arith, twice)))) (digits_lower bytes are)

pub hex_read : (bytes : List ℕ) → IsBytes bytes → 0 < length bytes → hex_bytes (encode_lower bytes) ≡ Some bytes
hex_read bytes are some =
    cond-true (is_hexadecimal (encode_lower bytes)) (result_ok (decode_of (encode_lower bytes))) None (hexadecimal_bytes bytes are some)
    ∙ ap result_ok (decode_of-encode_lower bytes are)
