-- Text in lower-case hexadecimal decodes, and pair by pair.
use Rattle.std.proofs.Common.{◌≡◌, ℕ, ◌+◌, ◌*◌, ◌%◌, ◌<◌, ◌≤◌, Bool, true, false, List, [], ◌∷◌, ◌++◌, length, take, drop, slice_index, Some, None, Ok, refl, sym, ap, ap₂, ◌∙◌, arith}
use Rattle.std.specs.Prelude.{◌&&◌, if◌then◌else◌}
use Rattle.std.specs.List.{list_all}
use Rattle.std.specs.Result.{result_ok}
use Rattle.std.proofs.lemmas.Bool.{and_parts}
use Rattle.std.proofs.lemmas.Bool.Decides.{nat_tests}
use Rattle.std.proofs.lemmas.List.{append-nil, drop_all, take_all, take_more}
use Rattle.std.proofs.lemmas.List.Elements.{All-weaker}
use Rattle.std.proofs.lemmas.List.Folds.{list_all-append}
use Rattle.std.proofs.lemmas.List.Sums.{AllPass-from_list_all}
use Rattle.hex.specs.Hex.{decode_of, decode_pairs, hex_digit_value, is_hex_digit, pair_value}
use Rattle.hex.proofs.HexLemmas.{decode_of-digits, decode_of-even}
use Rattle.hex.proofs.Pairs.{cons_byte, decode_pairs-ok_pair, drop-pair, prepend, prepend-cons_byte}
use Rattle.text.specs.Bytes.{is_hexadecimal, is_lower_digit}

-- a digit in lower case is a digit
is_hex_digit-from_lower : (c : ℕ) → is_lower_digit c ≡ true → is_hex_digit c ≡ true
is_hex_digit-from_lower c h = grind (arith, nat_tests)

-- the text decodes to some bytes
pub decodes : (text : List ℕ) → is_hexadecimal text ≡ true → (bytes : List ℕ) × (decode_of text ≡ Ok bytes)
decodes text h =
    let even : length text % 2 ≡ 0 = grind (arith, nat_tests) in
    let digits : list_all is_lower_digit text ≡ true = grind (arith, nat_tests) in
    decode_of-digits text even
    (All-weaker (λ c. is_lower_digit c ≡ true) (λ c. is_hex_digit c ≡ true) is_hex_digit-from_lower text (AllPass-from_list_all is_lower_digit text digits))

-- ---- pair by pair

and_true : (b : Bool) → (b && true) ≡ b
and_true true = refl
and_true false = refl

and_assoc : (a b c : Bool) → (a && (b && c)) ≡ ((a && b) && c)
and_assoc true b c = refl
and_assoc false b c = refl

-- two digits with these values
pair_of : (a b high low i : ℕ) → hex_digit_value a ≡ Some high → hex_digit_value b ≡ Some low → pair_value a b i ≡ Ok (high * 16 + low)
pair_of a b high low i ha hb = rw (ha, hb) refl

module _ (word : List ℕ) where
  -- so many pairs were read: what they decode to, if all their digits are in lower case
  pub record AreRead (pairs : ℕ) (are_digits : Bool) (bytes : List ℕ) : Type 0 where
    pub digits : are_digits ≡ list_all is_lower_digit (take (2 * pairs) word)
    pub decoded : are_digits ≡ true → decode_pairs 0 word ≡ prepend bytes (decode_pairs (2 * pairs) (drop (2 * pairs) word))

  module _ (i : ℕ) (fits : 2 * i + 1 < length word) where
    two_more : take (2 * (i + 1)) word ≡ (take (2 * i) word ++ slice_index word (2 * i) ∷ []) ++ slice_index word (2 * i + 1) ∷ []
    two_more =
        let two : 2 * (i + 1) ≡ 2 * i + 1 + 1 = omega arith in
        ap (λ (n : ℕ). take n word) two ∙ take_more word (2 * i + 1) 0 fits ∙ ap (λ (front : List ℕ). front ++ slice_index word (2 * i + 1) ∷ []) (take_more word (2 * i) 0 (omega (arith, fits)))

    are_digits : list_all is_lower_digit (take (2 * (i + 1)) word) ≡ ((list_all is_lower_digit (take (2 * i) word) && is_lower_digit (slice_index word (2 * i))) && is_lower_digit (slice_index word (2 * i + 1)))
    are_digits =
        let front = take (2 * i) word in
        let a = slice_index word (2 * i) in
        let b = slice_index word (2 * i + 1) in
        ap (list_all is_lower_digit) two_more ∙ list_all-append is_lower_digit (front ++ a ∷ []) (b ∷ [])
        ∙ ap₂ (λ (x y : Bool). x && y) (list_all-append is_lower_digit front (a ∷ []) ∙ ap (λ (x : Bool). list_all is_lower_digit front && x) (and_true (is_lower_digit a))) (and_true (is_lower_digit b))

    one_byte : (front : List ℕ) (v : ℕ) → pair_value (slice_index word (2 * i)) (slice_index word (2 * i + 1)) (2 * i) ≡ Ok v → decode_pairs 0 word ≡ prepend front (decode_pairs (2 * i) (drop (2 * i) word))
        → decode_pairs 0 word ≡ prepend (front ++ v ∷ []) (decode_pairs (2 * (i + 1)) (drop (2 * (i + 1)) word))
    one_byte front v ok so_far =
        let rest = drop (2 * (i + 1)) word in
        let two : 2 * i + 2 ≡ 2 * (i + 1) = omega arith in
        so_far
        ∙ ap (prepend front) (ap (decode_pairs (2 * i)) (drop-pair word i fits) ∙ decode_pairs-ok_pair (2 * i) _ _ v rest ok ∙ ap (λ (k : ℕ). cons_byte v (decode_pairs k rest)) two)
        ∙ prepend-cons_byte front v _

  -- one pair more
  pub read_next : (i : ℕ) (good : Bool) (bytes : List ℕ) (high low : ℕ) → 2 * i + 1 < length word
      → (is_lower_digit (slice_index word (2 * i)) ≡ true → hex_digit_value (slice_index word (2 * i)) ≡ Some high)
      → (is_lower_digit (slice_index word (2 * i + 1)) ≡ true → hex_digit_value (slice_index word (2 * i + 1)) ≡ Some low)
      → AreRead i good bytes → AreRead (i + 1) (good && (is_lower_digit (slice_index word (2 * i)) && is_lower_digit (slice_index word (2 * i + 1)))) (bytes ++ (high * 16 + low) ∷ [])
  read_next i good bytes high low fits first second so_far =
      let a = slice_index word (2 * i) in
      let b = slice_index word (2 * i + 1) in record {
        digits = and_assoc good (is_lower_digit a) (is_lower_digit b) ∙ ap (λ (x : Bool). (x && is_lower_digit a) && is_lower_digit b) so_far.digits ∙ sym (are_digits i fits);
        decoded = λ all.
            let parts = and_parts good (is_lower_digit a && is_lower_digit b) all in
            let both = and_parts (is_lower_digit a) (is_lower_digit b) parts.1 in
            one_byte i fits bytes (high * 16 + low) (pair_of a b high low (2 * i) (first both.0) (second both.1)) (so_far.decoded parts.0);
      }

  module _ (i : ℕ) (good : Bool) (bytes : List ℕ) (all : length word ≤ 2 * i) (so_far : AreRead i good bytes) where
    all_digits : list_all is_lower_digit word ≡ good
    all_digits = sym (so_far.digits ∙ ap (list_all is_lower_digit) (take_all (2 * i) word all))

    all_decoded : good ≡ true → decode_pairs 0 word ≡ Ok bytes
    unfolding decode_pairs
    all_decoded is = so_far.decoded is ∙ ap (prepend bytes) (ap (decode_pairs (2 * i)) (drop_all (2 * i) word all)) ∙ ap Ok (append-nil bytes)

    -- all pairs were read
    pub read_whole : length word % 2 ≡ 0 → good ≡ true → Some bytes ≡ (if list_all is_lower_digit word then result_ok (decode_of word) else None)
    read_whole even is = rw (all_digits, is, decode_of-even word even, all_decoded is) refl
