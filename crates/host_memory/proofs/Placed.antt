-- Pages by their places: one more, and one that is written.
use Rattle.std.proofs.Common.{◌≡◌, ◌≢◌, ℕ, zero, suc, ◌+◌, ◌-◌, ◌<◌, ◌≤◌, Bool, true, false, ◌&&◌, nat_le, slice_range, List, [], ◌∷◌, ◌++◌, length, map, set, get_or, count_by, cond, is_some, Option, Some, None, refl, sym, ◌∙◌, ap, ap₂, inl, inr, length-append, length-drop, length-set, length-take, length-take-le, take, drop, replicate, get_or-set_same, get_or-set_other, arith}
use Rattle.std.proofs.Math.Seq.{get_or-append_seam}
use Rattle.std.specs.Prelude.{IsSome, option_and_then}
use Rattle.std.specs.List.Sorted.{IsStrictlyIncreasing}
use Rattle.std.proofs.lemmas.Bool.{and_parts, cases_eq, leb-true}
use Rattle.std.proofs.lemmas.List.{get_or_append_left, get_or-map, length-map, length-replicate}
use Rattle.std.proofs.lemmas.List.Elements.{All-push, All-set}
use Rattle.std.proofs.lemmas.List.Sums.{count_by-le-length, sum_by-cons}
use Rattle.fab_types.specs.Bytes.{overwritten}
use Rattle.host_memory.specs.Pages.{range_of, zeros}
use Rattle.host_memory.specs.declared.page.Page.{Page}
use Rattle.host_memory.specs.Memory.{ArePlaced, page_at, zero_page}
use Rattle.host_memory.proofs.Zipped.{StandsAt}

-- ---- how many have a page

abbrev one_if : Option ℕ → ℕ
one_if o = cond (is_some o) 1 0

first : (x : Option ℕ) (xs : List (Option ℕ)) → count_by is_some (x ∷ xs) ≡ one_if x + count_by is_some xs
first x xs = sum_by-cons one_if x xs

most : (x : Option ℕ) → one_if x ≤ 1
most None = omega arith
most (Some p) = omega arith

count_none : (x : Option ℕ) → x ≡ None → one_if x ≡ 0
count_none x is = ap one_if is

pub fewer : (xs : List (Option ℕ)) (at : ℕ) → at < length xs → get_or xs at None ≡ None → count_by is_some xs < length xs
fewer [] at within none = absurd (omega (arith, within))
fewer (x ∷ xs) zero within none =
    let all = first x xs in let here = count_none x none in let rest = count_by-le-length is_some xs in omega (arith, all, here, rest)
fewer (x ∷ xs) (suc at) within none =
    let all = first x xs in let here = most x in let rest = fewer xs at (omega (arith, within)) none in omega (arith, all, here, rest)

one_more : (xs : List (Option ℕ)) (at place : ℕ) → at < length xs → get_or xs at None ≡ None → count_by is_some (set xs at (Some place)) ≡ count_by is_some xs + 1
one_more [] at place within none = absurd (omega (arith, within))
one_more (x ∷ xs) zero place within none =
    let all = first x xs in let new = first (Some place) xs in let here = count_none x none in omega (arith, all, new, here)
one_more (x ∷ xs) (suc at) place within none =
    let all = first x xs in let new = first x (set xs at (Some place)) in let rest = one_more xs at place (omega (arith, within)) none in omega (arith, all, new, rest)

-- ---- what stands at each place

module _ {Y : Type 0} (f g : Option ℕ → Y) where
  same_map : (xs : List (Option ℕ)) → ((i : ℕ) → i < length xs → f (get_or xs i None) ≡ g (get_or xs i None)) → map f xs ≡ map g xs
  same_map [] same = refl
  same_map (x ∷ xs) same = ap₂ (λ (y : Y) (ys : List Y). y ∷ ys) (same 0 (omega arith)) (same_map xs (λ i within. same (suc i) (omega (arith, within))))

  -- another one at a place, where that makes no difference
  set_same : (xs : List (Option ℕ)) (at : ℕ) (x : Option ℕ) → ((i : ℕ) → i < length xs → i ≢ at → f (get_or xs i None) ≡ g (get_or xs i None)) → f x ≡ g (get_or xs at None) → map f (set xs at x) ≡ map g xs
  set_same [] at x same here = refl
  set_same (y ∷ ys) zero x same here = ap₂ (λ (z : Y) (zs : List Y). z ∷ zs) here (same_map ys (λ i within. same (suc i) (omega (arith, within)) (omega arith)))
  set_same (y ∷ ys) (suc at) x same here =
      ap₂ (λ (z : Y) (zs : List Y). z ∷ zs) (same 0 (omega arith) (omega arith)) (set_same ys at x (λ i within other. same (suc i) (omega (arith, within)) (omega (arith, other))) here)

  -- another value at a place
  set_value : (xs : List (Option ℕ)) (at : ℕ) (y : Y) → ((i : ℕ) → i < length xs → i ≢ at → f (get_or xs i None) ≡ g (get_or xs i None)) → f (get_or xs at None) ≡ y → map f xs ≡ set (map g xs) at y
  set_value [] at y same here = refl
  set_value (x ∷ xs) zero y same here = ap₂ (λ (z : Y) (zs : List Y). z ∷ zs) here (same_map xs (λ i within. same (suc i) (omega (arith, within)) (omega arith)))
  set_value (x ∷ xs) (suc at) y same here =
      ap₂ (λ (z : Y) (zs : List Y). z ∷ zs) (same 0 (omega arith) (omega arith)) (set_value xs at y (λ i within other. same (suc i) (omega (arith, within)) (omega (arith, other))) here)

-- ---- how long they are

abbrev IsWhole : Page → Type 0
IsWhole page = length page.bytes ≡ 4096

zeros_long : length (zeros 4096) ≡ 4096
unfolding zeros
zeros_long = length-replicate {A = ℕ} 4096 0

-- a write over bytes leaves as many
pub overwritten_long : (bytes : List ℕ) (offset : ℕ) (part : List ℕ) → length (overwritten bytes offset part) ≡ length bytes
overwritten_long bytes offset part =
    let front = take offset bytes in
    let back = drop (offset + length part) bytes in
    length-take-le (length bytes) (front ++ part ++ back)
    (omega (arith, length-append front (part ++ back), length-append (front ++ part) back, length-append front part, length-append part back, length-take offset bytes, length-drop (offset + length part) bytes))

-- ---- one page more, for a place that has none

module _ (places : List (Option ℕ)) (pages : List Page) (capacity at : ℕ) (page : Page) (are : ArePlaced places pages capacity) (within : at < length places) (none : get_or places at None ≡ None) (zeroed : page.bytes ≡ zeros 4096) where
  abbrev more : List Page
  more = pages ++ page ∷ []

  abbrev placed : List (Option ℕ)
  placed = set places at (Some (length pages))

  long : length more ≡ length pages + 1
  long = length-append pages (page ∷ [])

  known : (i place : ℕ) → get_or placed i None ≡ Some place → i ≢ at → get_or places i None ≡ Some place
  known i place is other = sym (get_or-set_other places at i (Some (length pages)) None other) ∙ is

  here : (place : ℕ) → get_or placed at None ≡ Some place → place ≡ length pages
  here place is = let new : Some (length pages) ≡ Some place = sym (get_or-set_same places at (Some (length pages)) None within) ∙ is in cc

  here_at : (i place : ℕ) → i ≡ at → get_or placed i None ≡ Some place → place ≡ length pages
  here_at i place same is = here place (sym (ap (λ (k : ℕ). get_or placed k None) same) ∙ is)

  pub placed_more : (after : ℕ) → after ≡ capacity → ArePlaced placed more after
  placed_more after same = record {
    within = λ i place is. elim (cases_eq i at) [
      | inl one ↦ let new = here_at i place one is in omega (arith, new, long)
      | inr other ↦ let old = are.within i place (known i place is other) in omega (arith, old, long)
    ];
    distinct = λ i j place one two. elim (cases_eq i at) [
      | inl first_one ↦ elim (cases_eq j at) [
        | inl second ↦ first_one ∙ sym second
        | inr other ↦ let new = here_at i place first_one one in let old = are.within j place (known j place two other) in absurd (omega (arith, new, old))
      ]
      | inr differ ↦ elim (cases_eq j at) [
        | inl second ↦ let new = here_at j place second two in let old = are.within i place (known i place one differ) in absurd (omega (arith, new, old))
        | inr other ↦ are.distinct i j place (known i place one differ) (known j place two other)
      ]
    ];
    all = let count = one_more places at (length pages) within none in omega (arith, count, long, are.all);
    long = All-push IsWhole pages page are.long (ap (length {A = ℕ}) zeroed ∙ zeros_long);
    room = let as_many = length-set places at (Some (length pages)) in omega (arith, as_many, are.room, same);
  }

  kept : (o : Option ℕ) → ((place : ℕ) → o ≡ Some place → place < length pages) → page_at more o ≡ page_at pages o
  kept None low = refl
  kept (Some place) low = ap (λ (p : Page). p.bytes) (get_or_append_left pages (page ∷ []) zero_page place (low place refl))

  pub same_pages : map (page_at more) placed ≡ map (page_at pages) places
  same_pages = set_same (page_at more) (page_at pages) places at (Some (length pages))
      (λ i low other. kept (get_or places i None) (λ place is. are.within i place is))
      (ap (λ (p : Page). p.bytes) (get_or-append_seam pages page [] zero_page) ∙ zeroed ∙ sym (ap (page_at pages) none))

-- ---- a page that is written

module _ (places : List (Option ℕ)) (pages : List Page) (capacity at place : ℕ) (page : Page) (are : ArePlaced places pages capacity) (here : get_or places at None ≡ Some place) (whole : length page.bytes ≡ 4096) where
  abbrev wrote : List Page
  wrote = set pages place page

  pub placed_set : ArePlaced places wrote capacity
  placed_set = record {
    within = λ i p is. let old = are.within i p is in let long = length-set pages place page in omega (arith, old, long);
    distinct = are.distinct;
    all = length-set pages place page ∙ are.all;
    long = All-set IsWhole pages place page whole are.long;
    room = are.room;
  }

  other_page : (i : ℕ) (o : Option ℕ) → get_or places i None ≡ o → i ≢ at → page_at wrote o ≡ page_at pages o
  other_page i None is other = refl
  other_page i (Some p) is other = ap (λ (q : Page). q.bytes) (get_or-set_other pages place p page zero_page (λ same. other (are.distinct i at place (is ∙ ap (λ (k : ℕ). Some k) same) here)))

  pub wrote_pages : map (page_at wrote) places ≡ set (map (page_at pages) places) at page.bytes
  wrote_pages = set_value (page_at wrote) (page_at pages) places at page.bytes
      (λ i low other. other_page i (get_or places i None) refl other)
      (ap (page_at wrote) here ∙ ap (λ (p : Page). p.bytes) (get_or-set_same pages place page zero_page (are.within at place here)))

-- ---- the page of a number

module _ (numbers : List ℕ) (places : List (Option ℕ)) (pages : List Page) (k at : ℕ) (rising : IsStrictlyIncreasing numbers) (paired : length places ≡ length numbers) (within : at < length numbers) (number : get_or numbers at 0 ≡ k) where
  pub standing : (page : List ℕ) → page ≡ page_at pages (get_or places at None) → StandsAt numbers (map (page_at pages) places) k at page
  standing page is = record {
    rising = rising;
    paired = length-map places (page_at pages) ∙ paired;
    within = within;
    number = number;
    bytes = is ∙ sym (get_or-map (page_at pages) places at None page (omega (arith, within, paired)));
  }

-- where there is a part, its range lies in a page
pub part_bounds : (found : Option (List ℕ)) (start end : ℕ) → IsSome (option_and_then (range_of start end) found) → (start ≤ end) × (end ≤ 4096)
part_bounds None start end there = absurd cc
part_bounds (Some page) start end there = by (nat_le start end && nat_le end 4096) refl there where
  by : (b : Bool) → (nat_le start end && nat_le end 4096) ≡ b → IsSome (cond b (Some (slice_range page start end)) None) → (start ≤ end) × (end ≤ 4096)
  by true is some = let both = and_parts (nat_le start end) (nat_le end 4096) is in (leb-true start end both.0, leb-true end 4096 both.1)
  by false is some = absurd cc

pub range_long : (bytes : List ℕ) (start end : ℕ) → start ≤ end → end ≤ length bytes → length (slice_range bytes start end) + start ≡ end
range_long bytes start end low high =
    let rest = length-drop start bytes in
    let part = length-take-le (end - start) (drop start bytes) (omega (arith, low, high, rest)) in
    omega (arith, part, low)

-- ---- at the start

pub replicated : {X Y : Type 0} (f : X → Y) (n : ℕ) (x : X) → map f (replicate n x) ≡ replicate n (f x)
replicated f zero x = refl
replicated f (suc n) x = ap (λ (ys : List _). f x ∷ ys) (replicated f n x)
