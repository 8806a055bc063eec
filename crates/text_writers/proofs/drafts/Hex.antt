-- Numbers in hexadecimal digits, byte by byte.
use Rattle.std.proofs.Common.{◌≡◌, ℕ, suc, ◌/◌, ◌%◌, ◌-◌, ◌^◌, ◌<◌, false, refl, sym, ap, ◌∙◌, List, [], ◌∷◌, ◌++◌, arith}
use Rattle.std.specs.Fmt.{digit_glyph, digits, format_spec, padded_integral}
use Rattle.std.proofs.lemmas.Fmt.{hex_byte}
use Rattle.text_writers.specs.Words.{hex_before, hex_text}

-- what `{:02x}` writes
abbrev pub byte_of : ℕ → List ℕ
byte_of n = padded_integral (format_spec 32 0 4 2 (2 ^ 64 - 1)) false [] (digits 16 false n)

pair : ℕ → List ℕ → List ℕ
pair n behind = digit_glyph false (n / 16) ∷ digit_glyph false (n % 16) ∷ behind

byte-pair : (n : ℕ) (behind : List ℕ) → n < 256 → byte_of n ++ behind ≡ pair n behind
unfolding pair
byte-pair n behind small = ap (λ (text : List ℕ). text ++ behind) (hex_byte false n small)

two-more : (count n : ℕ) (behind : List ℕ) → hex_before (suc (suc count)) n behind ≡ hex_before count (n / 256) (pair (n % 256) behind)
unfolding pair
two-more count n behind =
    let a : n / 256 ≡ n / 16 / 16 = omega arith in
    let b : n % 256 / 16 ≡ n / 16 % 16 = omega arith in
    let c : n % 256 % 16 ≡ n % 16 = omega arith in
    rw (a, b, c) refl

pub hex_two : (n : ℕ) → n < 256 → byte_of n ≡ hex_text 2 n
unfolding hex_text
hex_two n small =
    let a : n / 16 % 16 ≡ n / 16 = omega arith in
    hex_byte false n small ∙ rw a refl

pub hex_eight : (n : ℕ) → n < 2 ^ 32
    → byte_of (n / 16777216) ++ (byte_of (n / 65536 % 256) ++ (byte_of (n / 256 % 256) ++ byte_of (n % 256))) ≡ hex_text 8 n
unfolding hex_text pair
hex_eight n small =
    let a : n / 256 / 256 % 256 ≡ n / 65536 % 256 = omega arith in
    let b : n / 256 / 256 / 256 % 256 ≡ n / 16777216 = omega arith in
    let last : byte_of (n % 256) ≡ pair (n % 256) [] = hex_byte false (n % 256) (omega arith) in
    let three = two-more 6 n [] ∙ two-more 4 (n / 256) (pair (n % 256) []) ∙ two-more 2 (n / 256 / 256) (pair (n / 256 % 256) (pair (n % 256) [])) ∙ two-more 0 (n / 256 / 256 / 256) (pair (n / 256 / 256 % 256) (pair (n / 256 % 256) (pair (n % 256) []))) in
    byte-pair (n / 16777216) _ (omega arith)
    ∙ ap (pair (n / 16777216)) (byte-pair (n / 65536 % 256) _ (omega arith)
    ∙ ap (pair (n / 65536 % 256)) (byte-pair (n / 256 % 256) _ (omega arith)
    ∙ ap (pair (n / 256 % 256)) last))
    ∙ sym (three ∙ rw (a, b) refl)
