-- What a table holds: the values of a function at 0, 1 and on.
use Rattle.std.specs.Prelude.{ℕ, List, map}
use Rattle.std.specs.List.{range_with_len}

unfoldable pub table_of : {X : Type 0} → ℕ → (ℕ → X) → List X
table_of count value = map value (range_with_len 0 count)
