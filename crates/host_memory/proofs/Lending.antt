-- A memory of which a part of a page was lent to be written.
use Rattle.std.proofs.Common.{◌≡◌, ◌∙◌, ◌<◌, ℕ, List, Option, Some, None, Vec, Global, ap, arith, get_or, length, map, subst, sym, vec_capacity}
use Rattle.std.specs.List.{zip}
use Rattle.std.specs.Vec.{with_item, with_items}
use Rattle.std.proofs.lemmas.List.{get_or_default, with_items_is}
use Rattle.fab_types.specs.Bytes.{overwritten}
use Rattle.host_memory.specs.Pages.{written}
use Rattle.host_memory.specs.declared.page.Page.{Page}
use Rattle.host_memory.specs.declared.memory.HostMemory.TheInside.{Inside}
use Rattle.host_memory.specs.Memory.{ArePlaced, IsMemory, page_at, pages_of, zero_page}
use Rattle.host_memory.proofs.Placed.{overwritten_long, placed_set, standing, wrote_pages}
use Rattle.host_memory.proofs.Zipped.{StandsAt, written_standing}

module _ (m : Inside) (is : IsMemory m) (places : List (Option ℕ)) (pages : Vec Page Global) (frame at place : ℕ) (old : Page) (placed : ArePlaced places pages.items (vec_capacity pages))
    (same : map (page_at pages.items) places ≡ map (page_at m.pages.items) m.places.items) (as_many : length places ≡ length m.places.items) (here : get_or places at None ≡ Some place)
    (read : old ≡ get_or pages.items place old) (within : at < length m.numbers.items) (number : get_or m.numbers.items at 0 ≡ frame) where
  in_place : old ≡ get_or pages.items place zero_page
  in_place = read ∙ get_or_default pages.items place old zero_page (placed.within at place here)

  pub whole : length old.bytes ≡ 4096
  whole = ap (λ (page : Page). length page.bytes) in_place ∙ placed.long place zero_page (placed.within at place here)

  paired : length places ≡ length m.numbers.items
  paired = omega (arith, as_many, is.paired)

  stands_new : StandsAt m.numbers.items (map (page_at pages.items) places) frame at old.bytes
  stands_new = standing m.numbers.items places pages.items frame at is.rising paired within number old.bytes (ap (λ (page : Page). page.bytes) in_place ∙ sym (ap (page_at pages.items) here))

  pub stands : StandsAt m.numbers.items (map (page_at m.pages.items) m.places.items) frame at old.bytes
  stands = subst (λ (bytes : List (List ℕ)). StandsAt m.numbers.items bytes frame at old.bytes) same stands_new

  module _ (start : ℕ) (part : List ℕ) where
    abbrev page : Page
    page = record { bytes = overwritten old.bytes start part }

    abbrev pub left : Inside
    left = record { numbers = m.numbers; places = with_items m.places places; pages = with_item pages place page }

    items : left.places.items ≡ places
    items = with_items_is m.places places (omega (arith, as_many))

    pub left_is : IsMemory left
    left_is = record {
      rising = is.rising;
      paired = is.paired;
      placed = subst (λ (xs : List (Option ℕ)). ArePlaced xs left.pages.items (vec_capacity left.pages)) (sym items)
          (placed_set places pages.items (vec_capacity pages) at place page placed here (overwritten_long old.bytes start part ∙ whole));
    }

    pub left_written : pages_of left ≡ written (pages_of m) frame start part
    left_written =
        ap (λ (xs : List (Option ℕ)). zip m.numbers.items (map (page_at left.pages.items) xs)) items
        ∙ ap (zip m.numbers.items) (wrote_pages places pages.items (vec_capacity pages) at place page placed here (overwritten_long old.bytes start part ∙ whole))
        ∙ written_standing m.numbers.items (map (page_at pages.items) places) frame at start part old.bytes stands_new
        ∙ ap (λ (bytes : List (List ℕ)). written (zip m.numbers.items bytes) frame start part) same
