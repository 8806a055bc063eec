-- Words make a line.
use Rattle.std.proofs.Common.{ℕ, refl, List, [], ◌∷◌}
use Rattle.text.specs.Words.{IsWord}
use Rattle.text.proofs.LineLemmas.{IsLine, line_of_word, lines_joined}
use Rattle.text_writers.specs.Words.{more_words}

abbrev pub AreWords : List (List ℕ) → Type 0
AreWords [] = Unit {0}
AreWords (word ∷ rest) = IsWord word × AreWords rest

pub words_are_line : (words : List (List ℕ)) → AreWords words → IsLine (more_words words)
words_are_line [] are = refl
words_are_line (word ∷ rest) are = lines_joined word (more_words rest) (line_of_word word are.0) (words_are_line rest are.1)
