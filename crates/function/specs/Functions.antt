-- The functions of a domain: each one's ID and page.
use Rattle.std.specs.Prelude.{◌≡◌, ◌<◌, ◌==◌, ℕ, List, [], Option, length, slice_index_or, slice_set}
use Rattle.std.specs.List.{position}
use Rattle.fab_types.specs.Id.{bus_of}

-- where the first function of a bus stands
abbrev pub first_on_bus : List (ℕ × List ℕ) → ℕ → Option ℕ
first_on_bus functions bus = position (λ function. bus_of function.0 == bus) functions

-- the place of each bus number
pub record IsBusTable (functions : List (ℕ × List ℕ)) (table : List (Option ℕ)) : Type 0 where
  pub long : length table ≡ 256
  pub filled : (bus : ℕ) (other : Option ℕ) → bus < 256 → slice_index_or table bus other ≡ first_on_bus functions bus

-- the page of the function at a place
abbrev pub page_at : List (ℕ × List ℕ) → ℕ → List ℕ
page_at functions at = (slice_index_or functions at (0, [])).1

-- the functions, the one at this place with this page
abbrev pub with_page : List (ℕ × List ℕ) → ℕ → List ℕ → List (ℕ × List ℕ)
with_page functions at page = slice_set functions at ((slice_index_or functions at (0, [])).0, page)
