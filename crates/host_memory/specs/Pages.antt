-- Pages of 4,096 bytes, each under its number.
use Rattle.std.specs.Prelude.{ℕ, ◌==◌, nat_le, ◌&&◌, List, map, replicate, Option, Some, None, option_map, option_and_then, if◌then◌else◌, slice_range}
use Rattle.std.specs.List.{find}
use Rattle.fab_types.specs.Bytes.{overwritten}

-- so many zero bytes
unfoldable pub zeros : ℕ → List ℕ
zeros n = replicate n 0

-- a page of zero bytes for each number
abbrev pub zeroed : List ℕ → List (ℕ × List ℕ)
zeroed numbers = map (λ k. (k, zeros 4096)) numbers

-- the bytes of the page of this number
abbrev pub page_of : List (ℕ × List ℕ) → ℕ → Option (List ℕ)
page_of pages k = option_map (λ page. page.1) (find (λ page. page.0 == k) pages)

-- the bytes from start to end, if they lie in the 4,096
abbrev pub range_of : ℕ → ℕ → List ℕ → Option (List ℕ)
range_of start end page = if nat_le start end && nat_le end 4096 then Some (slice_range page start end) else None

-- the bytes from start to end in the page of this number
abbrev pub part_of : List (ℕ × List ℕ) → ℕ → ℕ → ℕ → Option (List ℕ)
part_of pages k start end = option_and_then (range_of start end) (page_of pages k)

-- the pages with these bytes in the page of this number from offset on
abbrev pub written : List (ℕ × List ℕ) → ℕ → ℕ → List ℕ → List (ℕ × List ℕ)
written pages k offset bytes = map (λ page. if page.0 == k then (page.0, overwritten page.1 offset bytes) else page) pages
