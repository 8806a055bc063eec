-- The words of a line.
use Rattle.std.specs.Prelude.{◌≡◌, ℕ, ◌==◌, Bool, true, ◌&&◌, not, List}
use Rattle.std.specs.List.{list_all}

-- no blank, and no line feed
abbrev pub is_inner : ℕ → Bool
is_inner b = not (b == 32) && not (b == 10)

abbrev pub IsWord : List ℕ → Type 0
IsWord word = list_all is_inner word ≡ true
