-- The register pages of a domain's functions, each under the ID of its function.
use Rattle.std.specs.Prelude.{ℕ, ◌==◌, List, [], Option, Some, None, slice_set, slice_index_or}
use Rattle.std.specs.List.{position}

-- the pages when the one at this place is changed
abbrev pub changed_at : List (ℕ × List ℕ) → (List ℕ → List ℕ) → Option ℕ → List (ℕ × List ℕ)
changed_at pages change None = pages
changed_at pages change (Some i) = slice_set pages i ((slice_index_or pages i (0, [])).0, change (slice_index_or pages i (0, [])).1)

-- the pages when that of this function is changed
abbrev pub changed : List (ℕ × List ℕ) → ℕ → (List ℕ → List ℕ) → List (ℕ × List ℕ)
changed pages function change = changed_at pages change (position (λ page. page.0 == function) pages)
