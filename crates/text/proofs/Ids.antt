-- IDs are read back from their texts, which are words.
use Rattle.std.proofs.Common.{◌≡◌, ℕ, ◌+◌, ◌*◌, ◌/◌, ◌%◌, ◌<◌, ◌^◌, true, false, refl, ap, sym, subst, ◌∙◌, List, [], ◌∷◌, ◌++◌, Option, Some, None, arith}
use Rattle.std.specs.Prelude.{codes}
use Rattle.std.specs.Fmt.{decimal, digit_glyph}
use Rattle.std.proofs.lemmas.Bool.{cond-true, and_from, lt-ltb}
use Rattle.std.proofs.lemmas.Bool.Decides.{nat_tests}
use Rattle.std.proofs.lemmas.Fmt.{decimal_digit, hex_byte}
use Rattle.fab_types.specs.Id.{bus_of, device_of, function_of, id_of}
use Rattle.fab_types.specs.Texts.{byte_text, id_text}
use Rattle.text.specs.Text.{hex_digit, hex_pair, id_at, id_of_known, id_of_parts}
use Rattle.text.specs.Words.{IsWord, is_inner}

-- ---- digits

pub glyph_read : (d : ℕ) → d < 16 → hex_digit (digit_glyph false d) ≡ Some d
glyph_read d small = grind (arith, nat_tests)

pub glyph_inner : (d : ℕ) → is_inner (digit_glyph false d) ≡ true
glyph_inner d = grind (arith, nat_tests)

pub digit_inner : (d : ℕ) → d < 10 → is_inner (48 + d) ≡ true
digit_inner d small = grind (arith, nat_tests)

digit_read : (d : ℕ) → d < 8 → hex_digit (48 + d) ≡ Some d
digit_read d small = grind (arith, nat_tests)

pair_of : (h l : ℕ) (high low : ℕ) → hex_digit high ≡ Some h → hex_digit low ≡ Some l → hex_pair high low ≡ Some (h * 16 + l)
pair_of h l high low is_high is_low = rw is_high (rw is_low refl)

pub byte_read : (n : ℕ) → n < 256 → hex_pair (digit_glyph false (n / 16)) (digit_glyph false (n % 16)) ≡ Some n
byte_read n small =
    let same : n / 16 * 16 + n % 16 ≡ n = omega arith in
    pair_of (n / 16) (n % 16) (digit_glyph false (n / 16)) (digit_glyph false (n % 16)) (glyph_read (n / 16) (omega (arith, small))) (glyph_read (n % 16) (omega arith)) ∙ ap (λ (m : ℕ). Some m) same

-- ---- IDs

known : (id : ℕ) → id_of_known (bus_of id) (device_of id) (function_of id) ≡ Some id
known id =
    let same : id_of (bus_of id) (device_of id) (function_of id) ≡ id = omega arith in
    cond-true _ (Some (id_of (bus_of id) (device_of id) (function_of id))) None
    (and_from _ _ (lt-ltb (device_of id) 32 (omega arith)) (lt-ltb (function_of id) 8 (omega arith)))
    ∙ ap (λ (m : ℕ). Some m) same

parts : (b d f : Option ℕ) (id : ℕ) → b ≡ Some (bus_of id) → d ≡ Some (device_of id) → f ≡ Some (function_of id) → id_of_parts b d f ≡ Some id
parts b d f id is_bus is_device is_function = rw is_bus (rw is_device (rw is_function (known id)))

-- the seven bytes of the text
pub spelled : (id : ℕ) → id < 2 ^ 16 → id_text id ≡
    digit_glyph false (bus_of id / 16) ∷ digit_glyph false (bus_of id % 16) ∷ 58 ∷ digit_glyph false (device_of id / 16) ∷ digit_glyph false (device_of id % 16) ∷ 46 ∷ (48 + function_of id) ∷ []
spelled id small =
    ap (λ (b : List ℕ). b ++ codes ":" ++ byte_text (device_of id) ++ codes "." ++ decimal (function_of id)) (hex_byte false (bus_of id) (omega (arith, small)))
    ∙ ap (λ (d : List ℕ). (digit_glyph false (bus_of id / 16) ∷ digit_glyph false (bus_of id % 16) ∷ []) ++ codes ":" ++ d ++ codes "." ++ decimal (function_of id)) (hex_byte false (device_of id) (omega arith))
    ∙ ap (λ (f : List ℕ). (digit_glyph false (bus_of id / 16) ∷ digit_glyph false (bus_of id % 16) ∷ []) ++ codes ":" ++ (digit_glyph false (device_of id / 16) ∷ digit_glyph false (device_of id % 16) ∷ []) ++ codes "." ++ f) (decimal_digit (function_of id) (omega arith))

at_seven : (a b c d e : ℕ) → id_at (a ∷ b ∷ 58 ∷ c ∷ d ∷ 46 ∷ e ∷ []) ≡ id_of_parts (hex_pair a b) (hex_pair c d) (hex_digit e)
unfolding id_at
at_seven a b c d e = refl

pub id_read : (id : ℕ) → id < 2 ^ 16 → id_at (id_text id) ≡ Some id
id_read id small =
    ap id_at (spelled id small)
    ∙ at_seven (digit_glyph false (bus_of id / 16)) (digit_glyph false (bus_of id % 16)) (digit_glyph false (device_of id / 16)) (digit_glyph false (device_of id % 16)) (48 + function_of id)
    ∙ parts _ _ _ id (byte_read (bus_of id) (omega (arith, small))) (byte_read (device_of id) (omega arith)) (digit_read (function_of id) (omega arith))

pub id_word : (id : ℕ) → id < 2 ^ 16 → IsWord (id_text id)
id_word id small =
    subst IsWord (sym (spelled id small))
    (and_from _ _ (glyph_inner (bus_of id / 16)) (and_from _ _ (glyph_inner (bus_of id % 16))
    (and_from _ _ (glyph_inner (device_of id / 16)) (and_from _ _ (glyph_inner (device_of id % 16))
    (and_from _ _ (digit_inner (function_of id) (omega arith)) refl)))))
