-- Comments of a layout's text.
use Rattle.std.specs.Prelude.{◌≡◌, ℕ, Bool, true, ◌&&◌, nat_le, nat_lt, List, ◌++◌, codes}
use Rattle.std.specs.List.{list_all}

-- a printable character of ASCII
abbrev pub is_printable : ℕ → Bool
is_printable byte = nat_le 32 byte && nat_lt byte 127

abbrev pub IsPrintable : List ℕ → Type 0
IsPrintable words = list_all is_printable words ≡ true

-- the line that has these words as a comment
abbrev pub comment_text : List ℕ → List ℕ
comment_text words = codes "# " ++ (words ++ codes "\n")
