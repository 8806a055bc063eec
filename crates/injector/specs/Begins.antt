-- Which begin is served next.
use Rattle.std.specs.Prelude.{◌≡◌, ◌⊎◌, List, Option, Some, None, [], ◌∷◌, ◌++◌}

-- It is the begin that was held, or else the oldest of the ring, which is taken out.
abbrev pub IsNext : {B : Type 0} → Option B → List B → List B → B → Type 0
IsNext held taken taken' begin = ((held ≡ Some begin) × (taken' ≡ taken)) ⊎ ((held ≡ None) × (taken' ≡ taken ++ begin ∷ []))
