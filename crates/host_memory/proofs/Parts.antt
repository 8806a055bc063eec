-- Parts of pages that stand beside their numbers.
use Rattle.std.proofs.Common.{◌≡◌, ℕ, ◌<◌, Bool, true, false, eqb, List, length, get_or, Option, Some, None, MatchOption, if◌then◌else◌, slice_range, nat_le, ◌&&◌, ap, sym, refl, ◌≤◌, ◌∷◌, []}
use Rattle.std.specs.Prelude.{IsSome, is_some, option_and_then}
use Rattle.std.proofs.lemmas.Bool.{false≢true, le-leb}
use Rattle.std.specs.List.{zip}
use Rattle.host_memory.specs.Pages.{page_of, part_of, range_of, written}
use Rattle.host_memory.proofs.Rising.{IsAbsent}
use Rattle.host_memory.proofs.Zipped.{StandsAt, page_of_absent, page_of_standing}

-- where there is a part, its page was found
pub found_with_part : (numbers : List ℕ) (pages : List (List ℕ)) (k start end : ℕ) (found : Option ℕ) → MatchOption found (IsAbsent numbers k) (λ at. (at < length numbers) × (get_or numbers at 0 ≡ k)) → IsSome (part_of (zip numbers pages) k start end) → IsSome found
found_with_part numbers pages k start end (Some at) is there = refl
found_with_part numbers pages k start end None absent there = rw (page_of_absent numbers pages k absent) at there

-- a choice that gives something gives its first branch
first_branch : (b : Bool) (x y : List ℕ) → IsSome (if b then Some x else None) → y ≡ x → (if b then Some x else None) ≡ Some y
first_branch true x y some same = ap Some (sym same)
first_branch false x y some same = absurd (false≢true some)

pub part_standing : (numbers : List ℕ) (pages : List (List ℕ)) (k at start end : ℕ) (page part : List ℕ) → StandsAt numbers pages k at page → IsSome (part_of (zip numbers pages) k start end) → part ≡ slice_range page start end → part_of (zip numbers pages) k start end ≡ Some part
part_standing numbers pages k at start end page part is there same =
    let here = rw (← page_of_standing numbers pages k at page is) at there in
    rw (← page_of_standing numbers pages k at page is) (first_branch (nat_le start end && nat_le end 4096) (slice_range page start end) part here same)

-- a range within the page is there where the page is
no_page : (o : Option (List ℕ)) (start end : ℕ) → start ≤ end → end ≤ 4096 → is_some (option_and_then (range_of start end) o) ≡ false → o ≡ None
no_page None start end low high e = refl
no_page (Some page) start end low high e = let low' = le-leb start end low in let high' = le-leb end 4096 high in absurd (false≢true (sym (rw (low', high') at e)))

unwritten_first : (b : Bool) (p : ℕ × List ℕ) (ps : List (ℕ × List ℕ)) (k start : ℕ) (bytes : List ℕ) → eqb p.0 k ≡ b → page_of (p ∷ ps) k ≡ None → (page_of ps k ≡ None → written ps k start bytes ≡ ps) → written (p ∷ ps) k start bytes ≡ p ∷ ps
unwritten_first true p ps k start bytes is e rest = let found : Some p.1 ≡ None = rw is at e in cc
unwritten_first false p ps k start bytes is e rest = rw is (ap (λ qs. p ∷ qs) (rest (rw is at e)))

-- where no page has the number, nothing is written
unwritten_page : (pages : List (ℕ × List ℕ)) (k start : ℕ) (bytes : List ℕ) → page_of pages k ≡ None → written pages k start bytes ≡ pages
unwritten_page [] k start bytes e = refl
unwritten_page (p ∷ ps) k start bytes e = unwritten_first (eqb p.0 k) p ps k start bytes refl e (unwritten_page ps k start bytes)

pub unwritten : (pages : List (ℕ × List ℕ)) (k start end : ℕ) (bytes : List ℕ) → start ≤ end → end ≤ 4096 → is_some (part_of pages k start end) ≡ false → written pages k start bytes ≡ pages
unwritten pages k start end bytes low high e = unwritten_page pages k start bytes (no_page (page_of pages k) start end low high e)
