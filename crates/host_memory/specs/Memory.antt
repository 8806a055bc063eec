-- What a clause sees of a host's memory.
use Rattle.std.specs.Prelude.{◌≡◌, ◌<◌, ◌≤◌, ℕ, List, length, map, count_by, All, Option, Some, None, is_some, slice_index_or, vec_capacity, vec_len}
use Rattle.std.specs.List.{zip}
use Rattle.std.specs.List.Sorted.{IsStrictlyIncreasing}
use Rattle.host_memory.specs.Pages.{zeros}
use Rattle.host_memory.specs.declared.page.Page.{Page}
use Rattle.host_memory.specs.declared.memory.HostMemory.TheInside.{Inside}

abbrev pub zero_page : Page
zero_page = record { bytes = zeros 4096 }

-- the bytes of the page at a place; one that was never lent to be written has none, and is zero
abbrev pub page_at : List Page → Option ℕ → List ℕ
page_at pages None = zeros 4096
page_at pages (Some place) = (slice_index_or pages place zero_page).bytes

abbrev pub pages_of : Inside → List (ℕ × List ℕ)
pages_of m = zip m.numbers.items (map (page_at m.pages.items) m.places.items)

-- each place is a page's, no two are one, each page has one and is whole, and there is room for all
pub record ArePlaced (places : List (Option ℕ)) (pages : List Page) (capacity : ℕ) : Type 0 where
  pub within : (i place : ℕ) → slice_index_or places i None ≡ Some place → place < length pages
  pub distinct : (i j place : ℕ) → slice_index_or places i None ≡ Some place → slice_index_or places j None ≡ Some place → i ≡ j
  pub all : length pages ≡ count_by is_some places
  pub long : All (λ page. length page.bytes ≡ 4096) pages
  pub room : length places ≤ capacity

pub record IsMemory (m : Inside) : Type 0 where
  pub rising : IsStrictlyIncreasing m.numbers.items
  pub paired : vec_len m.places ≡ vec_len m.numbers
  pub placed : ArePlaced m.places.items m.pages.items (vec_capacity m.pages)
