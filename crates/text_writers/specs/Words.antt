-- Words, and the numbers among them, as they are written.
use Rattle.std.specs.Prelude.{ℕ, zero, suc, ◌/◌, ◌%◌, false, List, [], ◌∷◌, ◌++◌}
use Rattle.std.specs.Fmt.{digit_glyph}

-- words behind another, each behind one blank
abbrev pub more_words : List (List ℕ) → List ℕ
more_words [] = []
more_words (word ∷ rest) = 32 ∷ (word ++ more_words rest)

-- so many hexadecimal digits of a number, the last ones, before what stands behind them
abbrev pub hex_before : ℕ → ℕ → List ℕ → List ℕ
hex_before zero n behind = behind
hex_before (suc count) n behind = hex_before count (n / 16) (digit_glyph false (n % 16) ∷ behind)

-- a number in so many hexadecimal digits, in lower case
unfoldable pub hex_text : ℕ → ℕ → List ℕ
hex_text count n = hex_before count n []
