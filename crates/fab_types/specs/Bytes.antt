-- Bytes that are written over others.
use Rattle.std.specs.Prelude.{ℕ, ◌+◌, List, ◌++◌, length, take, drop}

-- these bytes from offset on, in place of those that stood there. What would lie past the end is cut off
abbrev pub overwritten : List ℕ → ℕ → List ℕ → List ℕ
overwritten cells offset bytes = take (length cells) (take offset cells ++ bytes ++ drop (offset + length bytes) cells)
