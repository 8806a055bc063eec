-- Lists whose keys rise: what a search finds in one, and one element more.
use Rattle.std.proofs.Common.{◌≡◌, ℕ, ◌+◌, ◌-◌, ◌<◌, ◌≤◌, ◌≢◌, List, length, get_or, set, Result, Ok, Err, Some, None, sym, ◌∙◌, ap, subst, inl, inr, arith}
use Rattle.std.specs.List.{insert}
use Rattle.std.specs.List.Sorted.{IsSearchInRange, IsBinarySearchResult}
use Rattle.std.specs.Result.{result_ok}
use Rattle.std.specs.Ordering.{nat_cmp, ordering_index}
use Rattle.std.proofs.lemmas.Bool.{cases_lt, cases_eq}
use Rattle.std.proofs.lemmas.Bool.Decides.{nat_tests}
use Rattle.std.proofs.lemmas.Cmp.{ranked}
use Rattle.std.proofs.lemmas.List.{length-set, get_or-set_same, get_or-set_other}
use Rattle.std.proofs.lemmas.List.Edits.{length-insert, get_or-insert_below, get_or-insert_at, get_or-insert_above}
use Rattle.host_table.specs.Rising.{RisesBy, IsAt, IsGapFor, IsPlaceOf}

-- comparisons with a number rise with the other number
comparison_rises : (a b wanted : ℕ) → a ≤ b → ordering_index (nat_cmp a wanted) ≤ ordering_index (nat_cmp b wanted)
comparison_rises a b wanted le = grind (arith, nat_tests)

module _ {X : Type 0} (key : X → ℕ) (xs : List X) (rises : RisesBy key xs) where
  pub keys_rise : (i j : ℕ) (d : X) → i ≤ j → j < length xs → key (get_or xs i d) ≤ key (get_or xs j d)
  keys_rise i j d le within = elim (cases_lt i j) [
    | inl less ↦ omega (arith, rises i j d less within)
    | inr not_less ↦ let same : i ≡ j = omega arith in let e : key (get_or xs i d) ≡ key (get_or xs j d) = ap (λ (k : ℕ). key (get_or xs k d)) same in omega (arith, e)
  ]

  -- a binary search ends at the key, or in the gap for it
  pub searched : (wanted : ℕ) (answer : Result ℕ ℕ) → IsSearchInRange answer (length xs) → IsBinarySearchResult (λ x. nat_cmp (key x) wanted) xs answer → IsPlaceOf key xs wanted answer
  searched wanted (Ok place) within equal = record { within = within; here = λ d. ranked _ wanted _ (sym (equal d)) }
  searched wanted (Err place) within parted =
      let cut = parted (λ i j d le inside. comparison_rises _ _ wanted (keys_rise i j d le inside)) in
      record {
        within = within;
        before = λ i d least less. ranked _ wanted _ (sym (cut.0 i d least less));
        after = λ i d least less. ranked _ wanted _ (sym (cut.1 i d least less));
      }

  -- one key stands at one place
  pub same_place : (i j : ℕ) (d : X) → i < length xs → j < length xs → key (get_or xs i d) ≡ key (get_or xs j d) → i ≡ j
  same_place i j d inside within same = elim (cases_lt i j) [
    | inl less ↦ absurd (omega (arith, rises i j d less within))
    | inr not_less ↦ elim (cases_lt j i) [
      | inl greater ↦ absurd (omega (arith, rises j i d greater inside))
      | inr not_greater ↦ omega arith
    ]
  ]

  -- with one more in the gap for its key
  pub rises-insert : (x : X) (place : ℕ) → IsGapFor key xs (key x) place → RisesBy key (insert xs place x)
  rises-insert x place gap i j d less within =
      let new = insert xs place x in
      let long = length-insert xs place x gap.within in
      let below : (k : ℕ) → k < place → key (get_or new k d) ≡ key (get_or xs k d) = λ k lower. ap key (get_or-insert_below xs place x d k lower gap.within) in
      let here : (k : ℕ) → k ≡ place → key (get_or new k d) ≡ key x = λ k same. rw same (ap key (get_or-insert_at xs place x d gap.within)) in
      let above : (k : ℕ) → place < k → key (get_or new k d) ≡ key (get_or xs (k - 1) d) = λ k higher. subst (λ (q : ℕ). key (get_or new q d) ≡ key (get_or xs (k - 1) d)) {x = k - 1 + 1} (omega arith) (ap key (get_or-insert_above xs place x d (k - 1) (omega arith) gap.within)) in
      grind (arith, below i, here i, above i, below j, here j, above j, rises i j d, rises i (j - 1) d, rises (i - 1) (j - 1) d, gap.before i d, gap.after (j - 1) d)

  -- in a gap is no such key
  pub not_in_gap : (wanted place : ℕ) → IsGapFor key xs wanted place → (i : ℕ) (d : X) → i < length xs → key (get_or xs i d) ≢ wanted
  not_in_gap wanted place gap i d within same = elim (cases_lt i place) [
    | inl less ↦ omega (arith, gap.before i d (omega arith) less)
    | inr not_less ↦ omega (arith, gap.after i d not_less within)
  ]

  -- with one replaced by another of the same key
  pub rises-set : (x : X) (place : ℕ) → IsAt key xs (key x) place → RisesBy key (set xs place x)
  rises-set x place at i j d less within =
      let long = length-set xs place x in
      let kept : (k : ℕ) → key (get_or (set xs place x) k d) ≡ key (get_or xs k d) = λ k. elim (cases_eq k place) [
        | inl same ↦ rw same (ap key (get_or-set_same xs place x d at.within) ∙ sym (at.here d))
        | inr other ↦ ap key (get_or-set_other xs place k x d other)
      ] in
      omega (arith, kept i, kept j, rises i j d less (omega (arith, long, within)))

  -- a place that was found
  pub found_at : (wanted place : ℕ) (answer : Result ℕ ℕ) → IsPlaceOf key xs wanted answer → Some place ≡ result_ok answer → IsAt key xs wanted place
  found_at wanted place (Ok there) at found = let same : place ≡ there = cc in rw same at
  found_at wanted place (Err gap) at found = absurd cc

  -- a key that was not found
  pub found_nowhere : (wanted : ℕ) (answer : Result ℕ ℕ) → IsPlaceOf key xs wanted answer → None ≡ result_ok answer → (i : ℕ) (d : X) → i < length xs → key (get_or xs i d) ≢ wanted
  found_nowhere wanted (Ok there) at none = absurd cc
  found_nowhere wanted (Err place) gap none = not_in_gap wanted place gap
