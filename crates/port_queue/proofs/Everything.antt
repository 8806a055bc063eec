-- All that waits, whatever its place: the items of the three class queues, one queue after the other.
use Rattle.std.proofs.Common.{◌≡◌, ℕ, ◌∷◌, ◌++◌, List, [], refl, sym, ap, ap₂, ◌∙◌, subst, inl, inr}
use Rattle.std.specs.Prelude.{map}
use Rattle.std.specs.List.Sorted.{IsPermutation}
use Rattle.std.proofs.lemmas.Bool.{cases_lt}
use Rattle.std.proofs.lemmas.List.{append_assoc, append-nil, map-append}
use Rattle.std.proofs.lemmas.List.Sorted.{IsPermutation-refl, IsPermutation-sym, IsPermutation-trans, IsPermutation-cons, IsPermutation-append_right, IsPermutation-map, IsPermutation-middle}
use Rattle.ordering.specs.Ordering.{Class}
use Rattle.port_queue.specs.Arrivals.{Entry, insert_in, all_in, arrivals, tagged, waiting_of}
use Rattle.port_queue.proofs.Merging.{insert-before, insert-after}

module _ {A : Type 0} where
  insert_in-permutes : (x : ℕ × A) (ys : List (ℕ × A)) → IsPermutation (x ∷ ys) (insert_in x ys)
  insert_in-permutes x [] = IsPermutation-refl (x ∷ [])
  insert_in-permutes x (y ∷ ys) = elim (cases_lt x.0 y.0) [
    | inl before ↦ subst (IsPermutation (x ∷ y ∷ ys)) (sym (insert-before x y ys before)) (IsPermutation-refl (x ∷ y ∷ ys))
    | inr after ↦ subst (IsPermutation (x ∷ y ∷ ys)) (sym (insert-after x y ys after))
        (IsPermutation-trans (x ∷ y ∷ ys) (y ∷ x ∷ ys) (y ∷ insert_in x ys) (IsPermutation-sym _ _ (IsPermutation-middle (y ∷ []) x ys)) (IsPermutation-cons y (x ∷ ys) (insert_in x ys) (insert_in-permutes x ys)))
  ]

  all_in-permutes : (xs ys : List (ℕ × A)) → IsPermutation (xs ++ ys) (all_in xs ys)
  all_in-permutes [] ys = IsPermutation-refl ys
  all_in-permutes (x ∷ xs) ys =
      IsPermutation-trans (x ∷ (xs ++ ys)) (x ∷ all_in xs ys) (all_in (x ∷ xs) ys) (IsPermutation-cons x (xs ++ ys) (all_in xs ys) (all_in-permutes xs ys)) (insert_in-permutes x (all_in xs ys))

module _ {T : Type 0} where
  items_in : List (Entry T) → List T
  items_in entries = map (λ entry. entry.item) entries

  untagged : (class : Class) (entries : List (Entry T)) → map (λ y. y.1.1) (map (tagged class) entries) ≡ items_in entries
  unfolding items_in
  untagged class [] = refl
  untagged class (e ∷ entries) = ap (λ items. e.item ∷ items) (untagged class entries)

  untaken : (ys : List (ℕ × (Class × T))) → map (λ w. w.1) (map (λ y. y.1) ys) ≡ map (λ y. y.1.1) ys
  untaken [] = refl
  untaken (y ∷ ys) = ap (λ items. y.1.1 ∷ items) (untaken ys)

  pub waiting_items : (f : Class → List (Entry T)) (items : List T)
      → items ≡ map (λ entry. entry.item) (f Class.Posted) ++ map (λ entry. entry.item) (f Class.NonPosted) ++ map (λ entry. entry.item) (f Class.Completion)
      → IsPermutation items (map (λ w. w.1) (waiting_of f))
  unfolding items_in
  waiting_items f items is =
      let posted = map (tagged Class.Posted) (f Class.Posted) in
      let non_posted = map (tagged Class.NonPosted) (f Class.NonPosted) in
      let completion = map (tagged Class.Completion) (f Class.Completion) in
      let last = all_in completion [] in
      let later = all_in non_posted last in
      let item : ℕ × (Class × T) → T = λ y. y.1.1 in
      let third : IsPermutation (completion ++ []) last = all_in-permutes completion [] in
      let second : IsPermutation (non_posted ++ (completion ++ [])) later =
      IsPermutation-trans _ (non_posted ++ last) _ (IsPermutation-append_right non_posted (completion ++ []) last third) (all_in-permutes non_posted last) in
      let first : IsPermutation (posted ++ (non_posted ++ (completion ++ []))) (arrivals f) =
      IsPermutation-trans _ (posted ++ later) _ (IsPermutation-append_right posted (non_posted ++ (completion ++ [])) later second) (all_in-permutes posted later) in
      let all : IsPermutation (map item (posted ++ (non_posted ++ (completion ++ [])))) (map item (arrivals f)) = IsPermutation-map item _ _ first in
      let parts : map item (posted ++ (non_posted ++ (completion ++ []))) ≡ items =
      map-append item posted (non_posted ++ (completion ++ []))
      ∙ (ap₂ (λ (a b : List T). a ++ b) (untagged Class.Posted (f Class.Posted))
      (map-append item non_posted (completion ++ [])
      ∙ ap₂ (λ (a b : List T). a ++ b) (untagged Class.NonPosted (f Class.NonPosted)) (ap (map item) (append-nil completion) ∙ untagged Class.Completion (f Class.Completion)))
      ∙ (sym (append_assoc (items_in (f Class.Posted)) (items_in (f Class.NonPosted)) (items_in (f Class.Completion))) ∙ sym is)) in
      subst (λ (to : List T). IsPermutation items to) (sym (untaken (arrivals f))) (subst (λ (from : List T). IsPermutation from (map item (arrivals f))) parts all)
