-- The line of what is in flight is read as one.
use Rattle.std.proofs.Common.{◌≡◌, ℕ, ◌+◌, ◌<◌, ◌≤◌, ◌^◌, ◌==◌, true, not, refl, ap, ◌∙◌, List, [], ◌∷◌, ◌++◌, length, Option, Some, None, arith}
use Rattle.std.specs.Prelude.{is_some}
use Rattle.std.specs.Fmt.{decimal}
use Rattle.std.specs.List.{flat_map, list_all, onto_first, slice_split}
use Rattle.std.proofs.lemmas.Bool.{and_from, and_parts, cond-false, not-true}
use Rattle.std.proofs.lemmas.List.{append-nil}
use Rattle.text.specs.Text.{is_byte}
use Rattle.text.specs.Words.{IsWord, is_inner}
use Rattle.request_handling.specs.Emissions.{Emission}
use Rattle.journal_text.specs.Journals.{numbers_from}
use Rattle.journal_text.specs.Notes.{in_flight_text, number_word}
use Rattle.journal_text.specs.Reading.{are_numbers, is_in_flight, is_number}
use Rattle.journal_text.proofs.FieldWords.{decimal_word}
use Rattle.journal_text.proofs.NumbersRead.{number_read}

-- ---- a text split at blanks

word_split : (w : List ℕ) → IsWord w → slice_split (is_byte 32) w ≡ w ∷ []
word_split [] h = refl
word_split (b ∷ w) h =
    let parts = and_parts (is_inner b) (list_all is_inner w) h in
    cond-false (b == 32) ([] ∷ slice_split (is_byte 32) w) (onto_first b (slice_split (is_byte 32) w)) (not-true (b == 32) (and_parts (not (b == 32)) (not (b == 10)) parts.0).0)
    ∙ ap (onto_first b) (word_split w parts.1)

first_split : (w rest : List ℕ) → IsWord w → slice_split (is_byte 32) (w ++ (32 ∷ rest)) ≡ w ∷ slice_split (is_byte 32) rest
first_split [] rest h = refl
first_split (b ∷ w) rest h =
    let parts = and_parts (is_inner b) (list_all is_inner w) h in
    cond-false (b == 32) ([] ∷ slice_split (is_byte 32) (w ++ (32 ∷ rest))) (onto_first b (slice_split (is_byte 32) (w ++ (32 ∷ rest)))) (not-true (b == 32) (and_parts (not (b == 32)) (not (b == 10)) parts.0).0)
    ∙ ap (onto_first b) (first_split w rest parts.1)

-- ---- numbers of 64 bits

abbrev pub AreWide : List ℕ → Type 0
AreWide [] = Unit {0}
AreWide (n ∷ numbers) = (n < 2 ^ 64) × AreWide numbers

number_is : (n : ℕ) → n < 2 ^ 64 → is_number (decimal n) ≡ true
number_is n small = ap is_some (number_read n small)

numbers_are : (n : ℕ) (numbers : List ℕ) → n < 2 ^ 64 → AreWide numbers → are_numbers (decimal n ++ flat_map number_word numbers) ≡ true
numbers_are n [] small are =
    ap are_numbers (append-nil (decimal n)) ∙ ap (list_all is_number) (word_split (decimal n) (decimal_word n small)) ∙ and_from (is_number (decimal n)) true (number_is n small) refl
numbers_are n (m ∷ numbers) small are =
    ap (list_all is_number) (first_split (decimal n) (decimal m ++ flat_map number_word numbers) (decimal_word n small))
    ∙ and_from (is_number (decimal n)) (are_numbers (decimal m ++ flat_map number_word numbers)) (number_is n small) (numbers_are m numbers are.0 are.1)

pub in_flight_is : (n : ℕ) (numbers : List ℕ) → AreWide (n ∷ numbers) → is_in_flight (in_flight_text (n ∷ numbers)) ≡ true
in_flight_is n numbers are = numbers_are n numbers are.0 are.1

pub wide_from : (n : ℕ) (flight : List (Option Emission)) → n + length flight ≤ 2 ^ 64 → AreWide (numbers_from n flight)
wide_from n [] few = tt
wide_from n (None ∷ flight) few = wide_from (n + 1) flight (omega arith)
wide_from n (Some e ∷ flight) few = (omega arith, wide_from (n + 1) flight (omega arith))
