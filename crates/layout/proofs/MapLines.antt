-- The two indexes of `map` lines, with one line more.
use Rattle.std.proofs.Common.{◌≡◌, ℕ, ◌<◌, ◌==◌, Bool, true, false, ◌&&◌, cond, List, [], ◌∷◌, ◌++◌, length, filter, get_or, set, Option, Some, None, option_map, find, count_by, Vec, nat_le, refl, sym, ◌∙◌, ap, true≢false, inl, inr, append-nil, get_or-set_same, get_or-set_other, eq-eqb, eqb-true, ne_eqb, arith}
use Rattle.std.specs.Option.{option_or}
use Rattle.std.proofs.lemmas.Bool.{and_parts, cases_eq, false_from_ne_true}
use Rattle.std.proofs.lemmas.List.Elements.{filter-append}
use Rattle.std.proofs.lemmas.List.Folds.{find-append}
use Rattle.std.proofs.lemmas.List.Sums.{length-filter}
use Rattle.std.proofs.lemmas.Map.Views.{any-filter_same}
use Rattle.fab_types.specs.Id.{bus_of}
use Rattle.platform.specs.declared.parts.Mapping.{Mapping}
use Rattle.layout.specs.Rules.{has_full_table, is_mapped, is_mapping_of, is_of_requester}
use Rattle.layout.specs.MapLines.{ByBus, first_of_frame, is_from_bus, noted}

-- ---- by bus

module _ (lines : List Mapping) (line : Mapping) where
  more-by : (b : Bool) (bus : ℕ) → is_from_bus bus line ≡ b → filter (is_from_bus bus) (lines ++ line ∷ []) ≡ filter (is_from_bus bus) lines ++ cond b (line ∷ []) []
  more-by b bus is = filter-append (is_from_bus bus) lines (line ∷ []) ∙ ap (λ (c : Bool). filter (is_from_bus bus) lines ++ cond c (line ∷ []) []) is

  pub by_bus-more : {Z : Type 0} (buses : List (Vec Mapping Z)) (bus : ℕ) (before after : Vec Mapping Z) → length buses ≡ 256 → bus < 256 → bus ≡ bus_of line.requester → ByBus lines buses → before ≡ get_or buses bus before
      → after.items ≡ before.items ++ line ∷ [] → ByBus (lines ++ line ∷ []) (set buses bus after)
  by_bus-more {Z} buses bus before after all low own by read more other d within = elim (cases_eq other bus) [
    | inl same ↦ rw same (
        ap (λ (v : Vec Mapping Z). v.items) (get_or-set_same buses bus after d (omega (arith, all, low))) ∙ more
        ∙ ap (λ (v : Vec Mapping Z). v.items ++ line ∷ []) read ∙ ap (λ (xs : List Mapping). xs ++ line ∷ []) (by bus before low)
        ∙ sym (more-by true bus (eq-eqb (bus_of line.requester) bus (sym own))))
    | inr differ ↦
        ap (λ (v : Vec Mapping Z). v.items) (get_or-set_other buses bus other after d differ) ∙ by other d within
        ∙ sym (append-nil (filter (is_from_bus other) lines)) ∙ sym (more-by false other (ne_eqb (bus_of line.requester) other (λ same. differ (sym same ∙ sym own))))
  ]

-- what implies another test passes the same among those that passed that one
module _ {X : Type 0} (p q : X → Bool) (implied : (x : X) → p x ≡ true → q x ≡ true) where
  passes_not : (x : X) → q x ≡ false → p x ≡ false
  passes_not x not_q = false_from_ne_true (p x) (λ is. true≢false (sym (implied x is) ∙ not_q))

  twice : (c : Bool) (x : X) (xs kept : List X) → q x ≡ c → filter p kept ≡ filter p xs → filter p (cond c (x ∷ kept) kept) ≡ filter p (x ∷ xs)
  twice true x xs kept is rest = ap (λ (ys : List X). cond (p x) (x ∷ ys) ys) rest
  twice false x xs kept is rest = rest ∙ sym (ap (λ (b : Bool). cond b (x ∷ filter p xs) (filter p xs)) (passes_not x is))

  filtered : (xs : List X) → filter p (filter q xs) ≡ filter p xs
  filtered [] = refl
  filtered (x ∷ xs) = twice (q x) x xs (filter q xs) refl (filtered xs)

  pub count_among : (xs : List X) → count_by p (filter q xs) ≡ count_by p xs
  count_among xs = sym (length-filter p (filter q xs)) ∙ ap length (filtered xs) ∙ length-filter p xs

of_bus : (requester : ℕ) (line : Mapping) → is_of_requester requester line ≡ true → is_from_bus (bus_of requester) line ≡ true
of_bus requester line is = eq-eqb (bus_of line.requester) (bus_of requester) (ap bus_of (eqb-true line.requester requester is))

pub full_by_bus : (lines : List Mapping) (requester : ℕ) → has_full_table (filter (is_from_bus (bus_of requester)) lines) requester ≡ has_full_table lines requester
unfolding has_full_table
full_by_bus lines requester = ap (λ (n : ℕ). nat_le 64 n) (count_among (is_of_requester requester) (is_from_bus (bus_of requester)) (of_bus requester) lines)

pub mapped_by_bus : (lines : List Mapping) (requester page : ℕ) → is_mapped (filter (is_from_bus (bus_of requester)) lines) requester page ≡ is_mapped lines requester page
unfolding is_mapped
mapped_by_bus lines requester page =
    any-filter_same (λ (line : Mapping). is_of_requester requester line && (line.page == page)) (is_from_bus (bus_of requester)) true
    (λ line is. of_bus requester line (and_parts (is_of_requester requester line) (line.page == page) is).0) lines

-- ---- by frame

first_or : (found : Option Mapping) (frame : ℕ) (line : Mapping)
    → noted (option_map (λ (l : Mapping). l.requester) found) frame line ≡ option_map (λ (l : Mapping). l.requester) (option_or found (cond (is_mapping_of frame line.target) (Some line) None))
first_or (Some one) frame line = refl
first_or None frame line = by (is_mapping_of frame line.target) where
  by : (b : Bool) → cond b (Some line.requester) None ≡ option_map (λ (l : Mapping). l.requester) (cond b (Some line) None)
  by true = refl
  by false = refl

pub noted_first : (lines : List Mapping) (line : Mapping) (frame : ℕ) → noted (first_of_frame lines frame) frame line ≡ first_of_frame (lines ++ line ∷ []) frame
noted_first lines line frame =
    first_or (find (λ (l : Mapping). is_mapping_of frame l.target) lines) frame line
    ∙ ap (option_map (λ (l : Mapping). l.requester)) (sym (find-append (λ (l : Mapping). is_mapping_of frame l.target) lines (line ∷ [])))
