-- Numbers that rise.
use Rattle.std.proofs.Common.{◌≡◌, ◌≢◌, ℕ, ◌<◌, ◌≤◌, List, length, get_or, Result, Ok, Err, MatchOption, arith}
use Rattle.std.specs.List.Sorted.{IsStrictlyIncreasing, IsBinarySearchResult}
use Rattle.std.specs.Ordering.{nat_cmp}
use Rattle.std.specs.Result.{result_ok}
use Rattle.std.proofs.lemmas.List.Kept.{AllPairs-from_increasing}
use Rattle.std.proofs.lemmas.List.Sorted.{searched}

-- no number is k
abbrev pub IsAbsent : List ℕ → ℕ → Type 0
IsAbsent numbers k = (j : ℕ) → j < length numbers → get_or numbers j 0 ≢ k

-- k stands at this place and nowhere else
pub record IsOnlyAt (numbers : List ℕ) (k at : ℕ) : Type 0 where
  pub within : at < length numbers
  pub here : get_or numbers at 0 ≡ k
  pub only : (j : ℕ) → j < length numbers → j ≢ at → get_or numbers j 0 ≢ k

pub only_at : (numbers : List ℕ) (k at : ℕ) → IsStrictlyIncreasing numbers → at < length numbers → get_or numbers at 0 ≡ k → IsOnlyAt numbers k at
only_at numbers k at rising within here =
    let pairs = AllPairs-from_increasing numbers rising in
    record { within = within; here = here; only = λ j lt apart same. grind (arith, pairs j at 0, pairs at j 0) }

-- no number is above a later one
rising_never_falls : (numbers : List ℕ) → IsStrictlyIncreasing numbers → (i j : ℕ) → i ≤ j → j < length numbers → get_or numbers i 0 ≤ get_or numbers j 0
rising_never_falls numbers rising i j le lt = let pairs = AllPairs-from_increasing numbers rising in grind (arith, pairs i j 0)

-- numbers that are below k before a place, and above it from there on
not_between : (numbers : List ℕ) (k at : ℕ) → ((j : ℕ) → j < at → get_or numbers j 0 < k) → ((j : ℕ) → at ≤ j → j < length numbers → k < get_or numbers j 0) → IsAbsent numbers k
not_between numbers k at below above = λ j lt same. grind (arith, below j, above j)

-- what a binary search finds
pub placed : (numbers : List ℕ) (k : ℕ) (found : Result ℕ ℕ) → IsBinarySearchResult (λ n. nat_cmp n k) numbers found → IsStrictlyIncreasing numbers → MatchOption (result_ok found) (IsAbsent numbers k) (λ at. (at < length numbers) × (get_or numbers at 0 ≡ k))
placed numbers k (Ok at) is rising = searched numbers k (Ok at) is (rising_never_falls numbers rising)
placed numbers k (Err at) is rising =
    let apart = searched numbers k (Err at) is (rising_never_falls numbers rising) in not_between numbers k at apart.1 apart.2
