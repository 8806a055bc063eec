-- Lists whose keys rise strictly, and the place of a key in one.
use Rattle.std.specs.Prelude.{◌≡◌, ℕ, ◌<◌, ◌≤◌, List, length, Result, MatchResult, AllPairs}
use Rattle.std.specs.List.{AllWithin, HoldsAt}

-- of each two elements the later one's key is greater
abbrev pub RisesBy : {X : Type 0} → (X → ℕ) → List X → Type 0
RisesBy key xs = AllPairs (λ one other. key one < key other) xs

-- the element at this place has the key
pub record IsAt {X : Type 0} (key : X → ℕ) (xs : List X) (wanted place : ℕ) : Type 0 where
  pub within : place < length xs
  pub here : HoldsAt (λ x. key x ≡ wanted) xs place

-- the key would go to this place: lesser keys stand before it, and greater ones from it on
pub record IsGapFor {X : Type 0} (key : X → ℕ) (xs : List X) (wanted place : ℕ) : Type 0 where
  pub within : place ≤ length xs
  pub before : AllWithin (λ x. key x < wanted) xs 0 place
  pub after : AllWithin (λ x. wanted < key x) xs place (length xs)

-- a search answers the place of the key, or the gap for it
abbrev pub IsPlaceOf : {X : Type 0} → (X → ℕ) → List X → ℕ → Result ℕ ℕ → Type 0
IsPlaceOf key xs wanted answer = MatchResult answer (IsAt key xs wanted) (IsGapFor key xs wanted)
