-- A word is what stands before the first blank of a text that begins with it and a blank.
use Rattle.std.proofs.Common.{◌≡◌, ℕ, ◌+◌, ◌<◌, ◌==◌, not, refl, ap, ◌∙◌, List, [], ◌∷◌, ◌++◌, length, take, drop, Option, Some, None, nat_lt, arith, length-append}
use Rattle.std.specs.Prelude.{option_and_then, option_map}
use Rattle.std.specs.List.{list_all, position_or_len}
use Rattle.std.proofs.lemmas.Bool.{and_from, and_parts, cond-true, lt-ltb}
use Rattle.std.proofs.Math.Seq.{drop-append-add, take-append_seam}
use Rattle.text.specs.Text.{at_blank, cut, cut_at, is_byte}
use Rattle.text.specs.Words.{IsWord, is_inner}

place : (w rest : List ℕ) → IsWord w → position_or_len (is_byte 32) (w ++ (32 ∷ rest)) ≡ length w
place [] rest h = refl
place (b ∷ w) rest h =
    let parts = and_parts (is_inner b) (list_all is_inner w) h in
    let more = place w rest parts.1 in
    cond-true (not (b == 32)) (1 + position_or_len (is_byte 32) (w ++ (32 ∷ rest))) 0 (and_parts (not (b == 32)) (not (b == 10)) parts.0).0 ∙ omega (arith, more)

at_place : (n : ℕ) (text : List ℕ) → position_or_len (is_byte 32) text ≡ n → n < length text → at_blank text ≡ Some (take n text, drop (n + 1) text)
unfolding cut
at_place n text is below =
    let some = cond-true (nat_lt (position_or_len (is_byte 32) text) (length text)) (Some (position_or_len (is_byte 32) text)) None (lt-ltb (position_or_len (is_byte 32) text) (length text) (omega (arith, is, below))) in
    ap (option_map (cut_at text)) (some ∙ ap (λ (m : ℕ). Some m) is)

pub word_cut : (w rest : List ℕ) → IsWord w → at_blank (w ++ (32 ∷ rest)) ≡ Some (w, rest)
word_cut w rest h =
    let longer = length-append w (32 ∷ rest) in
    at_place (length w) (w ++ (32 ∷ rest)) (place w rest h) (omega (arith, longer))
    ∙ ap (λ (before : List ℕ). Some (before, drop (length w + 1) (w ++ (32 ∷ rest)))) (take-append_seam w (32 ∷ rest))
    ∙ ap (λ (after : List ℕ). Some (w, after)) (drop-append-add w (32 ∷ rest) 1)

-- what a text is cut behind its first word, goes on
pub first : {A : Type 0} (w rest : List ℕ) → IsWord w → (f : List ℕ × List ℕ → Option A) → option_and_then f (at_blank (w ++ (32 ∷ rest))) ≡ f (w, rest)
first w rest word f = ap (option_and_then f) (word_cut w rest word)

pub words_joined : (v w : List ℕ) → IsWord v → IsWord w → IsWord (v ++ w)
words_joined [] w hv hw = hw
words_joined (b ∷ v) w hv hw =
    let parts = and_parts (is_inner b) (list_all is_inner v) hv in
    and_from (is_inner b) (list_all is_inner (v ++ w)) parts.0 (words_joined v w parts.1 hw)
