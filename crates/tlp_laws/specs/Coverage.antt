-- Which bytes of a payload lie in its runs of enabled bytes (PCIe 4.0, 2.2.5).
use Rattle.std.specs.Prelude.{◌≡◌, ℕ, ◌+◌, ◌<◌, Bool, ◌&&◌, nat_le, nat_lt, List, [], ◌∷◌, length, slice_range}
use Rattle.std.specs.List.{All, list_any}

-- does a run begin here or before, and end behind?
abbrev pub holds : ℕ → (ℕ × List ℕ) → Bool
holds i run = nat_le run.0 i && nat_lt i (run.0 + length run.1)

-- does the byte lie in a run?
abbrev pub covers : List (ℕ × List ℕ) → ℕ → Bool
covers runs i = list_any (holds i) runs

-- each run is the bytes of the payload from where it begins on
abbrev pub AreOf : List ℕ → List (ℕ × List ℕ) → Type 0
AreOf payload runs = All (λ run. slice_range payload run.0 (run.0 + length run.1) ≡ run.1) runs

-- none is empty, and between two of them is a byte at least
abbrev pub AreApart : List (ℕ × List ℕ) → Type 0
AreApart [] = Unit {0}
AreApart (run ∷ []) = 0 < length run.1
AreApart (run ∷ next ∷ runs) = (0 < length run.1) × (run.0 + length run.1 < next.0) × AreApart (next ∷ runs)
