-- Numbers in rising order.
use Rattle.std.specs.Prelude.{ℕ, List}
use Rattle.std.specs.List.Sorted.{IsNonDecreasing, IsPermutation}

-- the same numbers, rising
pub record IsRising (numbers rising : List ℕ) : Type 0 where
  pub same : IsPermutation numbers rising
  pub order : IsNonDecreasing rising
