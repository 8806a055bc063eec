-- Numbers are read back from their digits, which are words.
use Rattle.std.proofs.Common.{◌≡◌, ℕ, zero, suc, ◌+◌, ◌*◌, ◌/◌, ◌%◌, ◌<◌, ◌≤◌, ◌^◌, ◌==◌, Bool, true, false, cond, refl, ap, sym, ◌∙◌, List, [], ◌∷◌, length, Option, Some, None, arith, eqb-true}
use Rattle.std.specs.Prelude.{option_and_then}
use Rattle.std.specs.Fmt as fmt
use Rattle.std.specs.List.{list_all}
use Rattle.std.proofs.lemmas.Bool.{and_from, cond-true, le-leb}
use Rattle.std.proofs.lemmas.Bool.Decides.{nat_tests}
use Rattle.std.proofs.lemmas.Fmt.{decimal_nonempty, length-decimal-le}
use Rattle.std.proofs.Math.Nat.{pow-suc, pow-zero}
use Rattle.text.specs.Text.{decimal, decimal_digit, digits, hex_digit, hexadecimal}
use Rattle.text.specs.Words.{IsWord, is_inner}
use Rattle.text.proofs.Ids.{glyph_inner, glyph_read}
use Rattle.text_writers.specs.Words.{hex_before, hex_text}

decimal_glyph_read : (d : ℕ) → d < 10 → decimal_digit (fmt.digit_glyph false d) ≡ Some d
decimal_glyph_read d small = grind (arith, nat_tests)

-- ---- read

-- digits of a base, and what its division gives
record IsBase (digit : ℕ → Option ℕ) (base : ℕ) : Type 0 where
  read : (d : ℕ) → d < base → digit (fmt.digit_glyph false d) ≡ Some d
  whole : (n : ℕ) → n / base * base + n % base ≡ n
  less : (n p : ℕ) → n < p * base → n / base < p
  low : (n : ℕ) → n % base < base
  single : (n : ℕ) → n / base ≡ 0 → n % base ≡ n

ten : IsBase decimal_digit 10
ten = record {
  read = decimal_glyph_read;
  whole = λ n. omega arith;
  less = λ n p h. omega arith;
  low = λ n. omega arith;
  single = λ n h. omega arith;
}

sixteen : IsBase hex_digit 16
sixteen = record {
  read = glyph_read;
  whole = λ n. omega arith;
  less = λ n p h. omega arith;
  low = λ n. omega arith;
  single = λ n h. omega arith;
}

module _ (digit : ℕ → Option ℕ) (base : ℕ) (is : IsBase digit base) where
  -- one digit is read behind those that spelled `high`
  one_read : (high d : ℕ) (behind : List ℕ) → d < base → digits digit base high (fmt.digit_glyph false d ∷ behind) ≡ digits digit base (high * base + d) behind
  one_read high d behind small = ap (option_and_then (λ e. digits digit base (high * base + e) behind)) (is.read d small)

  last_read : (n : ℕ) (behind : List ℕ) → digits digit base (n / base) (fmt.digit_glyph false (n % base) ∷ behind) ≡ digits digit base n behind
  last_read n behind = one_read (n / base) (n % base) behind (is.low n) ∙ ap (λ (m : ℕ). digits digit base m behind) (is.whole n)

  single_read : (n : ℕ) (behind : List ℕ) → n / base ≡ 0 → digits digit base 0 (fmt.digit_glyph false (n % base) ∷ behind) ≡ digits digit base n behind
  single_read n behind none = ap (λ (m : ℕ). digits digit base m (fmt.digit_glyph false (n % base) ∷ behind)) (sym none) ∙ last_read n behind

  onto_read : (k n : ℕ) (behind : List ℕ) → n < base ^ k → digits digit base 0 (fmt.digits_onto k base false n behind) ≡ digits digit base n behind
  onto_read zero n behind small =
      let none : 0 ≡ n = omega (arith, small, pow-zero base) in
      ap (λ (m : ℕ). digits digit base m behind) none
  onto_read (suc k) n behind small =
      let front : n / base < base ^ k = is.less n (base ^ k) (rw pow-suc at small) in
      go (n / base == 0) refl (onto_read k (n / base) (fmt.digit_glyph false (n % base) ∷ behind) front ∙ last_read n behind)
    where
      go : (b : Bool) → (n / base == 0) ≡ b
          → digits digit base 0 (fmt.digits_onto k base false (n / base) (fmt.digit_glyph false (n % base) ∷ behind)) ≡ digits digit base n behind
          → digits digit base 0 (cond b (fmt.digit_glyph false (n % base) ∷ behind) (fmt.digits_onto k base false (n / base) (fmt.digit_glyph false (n % base) ∷ behind))) ≡ digits digit base n behind
      go true e more = single_read n behind (eqb-true (n / base) 0 e)
      go false e more = more

pub decimal_digits_read : (n : ℕ) → n < 10 ^ 9 → digits decimal_digit 10 0 (fmt.decimal n) ≡ Some n
unfolding fmt.digits
decimal_digits_read n small = onto_read decimal_digit 10 ten 64 n [] (omega (arith, small))

before_read : (count n : ℕ) (behind : List ℕ) → n < 16 ^ count → digits hex_digit 16 0 (hex_before count n behind) ≡ digits hex_digit 16 n behind
before_read zero n behind small =
    let none : 0 ≡ n = omega (arith, small) in
    ap (λ (m : ℕ). digits hex_digit 16 m behind) none
before_read (suc count) n behind small =
    let power = pow-suc 16 count in
    before_read count (n / 16) (fmt.digit_glyph false (n % 16) ∷ behind) (omega (arith, small, power)) ∙ last_read hex_digit 16 sixteen n behind

-- ---- lengths

before_length : (count n : ℕ) (behind : List ℕ) → length (hex_before count n behind) ≡ count + length behind
before_length zero n behind = omega arith
before_length (suc count) n behind = omega (arith, before_length count (n / 16) (fmt.digit_glyph false (n % 16) ∷ behind))

onto_some : (k n : ℕ) (behind : List ℕ) → length behind ≤ length (fmt.digits_onto k 16 false n behind)
onto_some zero n behind = omega arith
onto_some (suc k) n behind = go (n / 16 == 0) (onto_some k (n / 16) (fmt.digit_glyph false (n % 16) ∷ behind))
  where
    go : (b : Bool) → suc (length behind) ≤ length (fmt.digits_onto k 16 false (n / 16) (fmt.digit_glyph false (n % 16) ∷ behind))
        → length behind ≤ length (cond b (fmt.digit_glyph false (n % 16) ∷ behind) (fmt.digits_onto k 16 false (n / 16) (fmt.digit_glyph false (n % 16) ∷ behind)))
    go true h = omega arith
    go false h = omega (arith, h)

onto_one : (k n : ℕ) (behind : List ℕ) → suc (length behind) ≤ length (fmt.digits_onto (suc k) 16 false n behind)
onto_one k n behind = go (n / 16 == 0) (onto_some k (n / 16) (fmt.digit_glyph false (n % 16) ∷ behind))
  where
    go : (b : Bool) → suc (length behind) ≤ length (fmt.digits_onto k 16 false (n / 16) (fmt.digit_glyph false (n % 16) ∷ behind))
        → suc (length behind) ≤ length (cond b (fmt.digit_glyph false (n % 16) ∷ behind) (fmt.digits_onto k 16 false (n / 16) (fmt.digit_glyph false (n % 16) ∷ behind)))
    go true h = omega arith
    go false h = h

-- a number of at most so many digits is written in so many at most
onto_few : (k j n : ℕ) (behind : List ℕ) → n < 16 ^ suc j → j < k → length (fmt.digits_onto k 16 false n behind) ≤ suc j + length behind
onto_few zero j n behind small near = absurd (omega arith)
onto_few (suc k) zero n behind small near =
    let low : n / 16 ≡ 0 = omega (arith, small) in
    rw (cond-true (n / 16 == 0) (fmt.digit_glyph false (n % 16) ∷ behind) (fmt.digits_onto k 16 false (n / 16) (fmt.digit_glyph false (n % 16) ∷ behind)) (ap (λ (m : ℕ). m == 0) low)) (omega arith)
onto_few (suc k) (suc j) n behind small near =
    let power = pow-suc 16 (suc j) in
    go (n / 16 == 0) (onto_few k j (n / 16) (fmt.digit_glyph false (n % 16) ∷ behind) (omega (arith, small, power)) (omega (arith, near)))
  where
    go : (b : Bool) → length (fmt.digits_onto k 16 false (n / 16) (fmt.digit_glyph false (n % 16) ∷ behind)) ≤ suc j + suc (length behind)
        → length (cond b (fmt.digit_glyph false (n % 16) ∷ behind) (fmt.digits_onto k 16 false (n / 16) (fmt.digit_glyph false (n % 16) ∷ behind))) ≤ suc (suc j) + length behind
    go true h = omega arith
    go false h = omega (arith, h)

-- ---- fields

pub count_read : (n : ℕ) → n < 10 ^ 9 → decimal (fmt.decimal n) ≡ Some n
unfolding decimal
count_read n small =
    let some = decimal_nonempty n (omega (arith, small)) in
    let few = length-decimal-le 9 n (omega arith) small (omega (arith, small)) in
    cond-true _ _ None (and_from _ _ (le-leb 1 (length (fmt.decimal n)) (omega (arith, some))) (le-leb (length (fmt.decimal n)) 9 few)) ∙ decimal_digits_read n small

pub hex_read : (count n : ℕ) → n < 16 ^ count → hexadecimal count count (hex_text count n) ≡ Some n
unfolding hexadecimal hex_text
hex_read count n small =
    let long = before_length count n [] in
    cond-true _ _ None (and_from _ _ (le-leb count (length (hex_before count n [])) (omega (arith, long))) (le-leb (length (hex_before count n [])) count (omega (arith, long)))) ∙ before_read count n [] small

pub page_read : (n : ℕ) → n < 2 ^ 52 → hexadecimal 1 13 (fmt.digits 16 false n) ≡ Some n
unfolding hexadecimal fmt.digits
page_read n small =
    let some = onto_one 63 n [] in
    let few = onto_few 64 12 n [] (omega (arith, small)) (omega arith) in
    cond-true _ _ None (and_from _ _ (le-leb 1 (length (fmt.digits_onto 64 16 false n [])) (omega (arith, some))) (le-leb (length (fmt.digits_onto 64 16 false n [])) 13 (omega (arith, few)))) ∙ onto_read hex_digit 16 sixteen 64 n [] (omega (arith, small))

-- ---- words

either_word : (test : Bool) (x y : List ℕ) → IsWord x → IsWord y → IsWord (cond test x y)
either_word true x y hx hy = hx
either_word false x y hx hy = hy

onto_word : (k base n : ℕ) (behind : List ℕ) → IsWord behind → IsWord (fmt.digits_onto k base false n behind)
onto_word zero base n behind h = h
onto_word (suc k) base n behind h =
    let glyph = fmt.digit_glyph false (n % base) in
    let one : IsWord (glyph ∷ behind) = and_from (is_inner glyph) (list_all is_inner behind) (glyph_inner (n % base)) h in
    either_word (n / base == 0) (glyph ∷ behind) (fmt.digits_onto k base false (n / base) (glyph ∷ behind)) one (onto_word k base (n / base) (glyph ∷ behind) one)

pub digits_word : (base n : ℕ) → IsWord (fmt.digits base false n)
unfolding fmt.digits
digits_word base n = onto_word 64 base n [] refl

before_word : (count n : ℕ) (behind : List ℕ) → IsWord behind → IsWord (hex_before count n behind)
before_word zero n behind h = h
before_word (suc count) n behind h =
    before_word count (n / 16) (fmt.digit_glyph false (n % 16) ∷ behind) (and_from (is_inner (fmt.digit_glyph false (n % 16))) (list_all is_inner behind) (glyph_inner (n % 16)) h)

pub hex_word : (count n : ℕ) → IsWord (hex_text count n)
unfolding hex_text
hex_word count n = before_word count n [] refl
