-- What is filled into a table, and what is read in it.
use Rattle.std.proofs.Common.{◌≡◌, ℕ, ◌<◌, List, [], ◌∷◌, length, slice_index_or, map, refl, ap, ◌∙◌, arith}
use Rattle.std.specs.List.{range_with_len}
use Rattle.std.proofs.lemmas.List.FromFn.{get_or-map-range_with_len, length-map-range_with_len, fill_by_all}
use Rattle.bridge.specs.Tables.{table_of}

pub table_of-filled : {X : Type 0} (count : ℕ) (value : ℕ → X) (items : List X) (d : X) → length items ≡ count
    → ((k : ℕ) → k < count → slice_index_or items k d ≡ value k) → items ≡ table_of count value
unfolding table_of
table_of-filled count value items d long filled = fill_by_all value items count d long filled

pub length-table_of : {X : Type 0} (count : ℕ) (value : ℕ → X) → length (table_of count value) ≡ count
unfolding table_of
length-table_of count value = length-map-range_with_len value 0 count

-- the value at a number
pub table_of-at : {X : Type 0} (count : ℕ) (value : ℕ → X) (k : ℕ) (d : X) → k < count → slice_index_or (table_of count value) k d ≡ value k
unfolding table_of
table_of-at count value k d within = get_or-map-range_with_len value 0 count k k d within (omega arith)

-- what is read at a number is its value
pub table_of-read : {X : Type 0} (count : ℕ) (value : ℕ → X) (items : List X) (k : ℕ) (read : X) → items ≡ table_of count value
    → k < count → read ≡ slice_index_or items k read → read ≡ value k
table_of-read {X} count value items k read is within there = there ∙ ap (λ (table : List X). slice_index_or table k read) is ∙ table_of-at count value k read within

map-same : {X Y : Type 0} (f g : X → Y) (xs : List X) → ((x : X) → f x ≡ g x) → map f xs ≡ map g xs
map-same f g [] same = refl
map-same f g (x ∷ xs) same = rw (same x) (ap (λ ys. g x ∷ ys) (map-same f g xs same))

pub table_of-same : {X : Type 0} (count : ℕ) (one other : ℕ → X) → ((k : ℕ) → one k ≡ other k) → table_of count one ≡ table_of count other
unfolding table_of
table_of-same count one other same = map-same one other (range_with_len 0 count) same
