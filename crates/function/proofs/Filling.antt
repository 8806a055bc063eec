-- A part of a page that is written over.
use Rattle.std.proofs.Common.{◌≡◌, ℕ, ◌+◌, ◌-◌, ◌≤◌, List, ◌++◌, length, take, drop, min, slice_range, sym, ap, ◌∙◌, arith, rules, append_assoc}
use Rattle.std.proofs.Math.Seq.{drop-drop}
use Rattle.std.proofs.lemmas.Bool.{cases_lt}
use Rattle.std.proofs.lemmas.List.{same_lists, places}
use Rattle.function.specs.Closings.{filled}
use Rattle.fab_types.specs.Bytes.{overwritten}
use borrow.Rule.Slice.PartMut.{put_mid}

overwritten_by : (cells bytes : List ℕ) (offset n : ℕ) → offset ≤ length cells → n ≡ min (length bytes) (length cells - offset)
    → take offset cells ++ (take n bytes ++ drop n (drop offset cells)) ≡ overwritten cells offset bytes
overwritten_by cells bytes offset n within is =
    same_lists _ _ (search (rules, places)) (λ j d h. grind (arith, places, cases_lt j offset, cases_lt j (offset + n)))

-- as many bytes as fit were copied
pub overwrite_is : (cells ys bytes : List ℕ) (offset n k : ℕ) → offset ≤ length cells → n ≡ min (length bytes) (length cells - offset) → k ≡ n → ys ≡ take n bytes → put_mid offset k cells ys ≡ overwritten cells offset bytes
overwrite_is cells ys bytes offset n k within is same copied =
    ap (λ xs. take offset cells ++ (xs ++ drop k (drop offset cells))) copied ∙ ap (λ m. take offset cells ++ (take n bytes ++ drop m (drop offset cells))) same ∙ overwritten_by cells bytes offset n within is

pub fill_is : (page new cells bytes : List ℕ) (offset : ℕ) → cells ≡ slice_range page 0x400 0x800 → new ≡ overwritten cells offset bytes → put_mid 1024 1024 page new ≡ filled page offset bytes
fill_is page new cells bytes offset is_part is_new =
    ap (λ xs. take 1024 page ++ (new ++ xs)) (drop-drop 1024 1024 page)
    ∙ sym (append_assoc (take 1024 page) new (drop 2048 page))
    ∙ ap (λ xs. take 1024 page ++ xs ++ drop 2048 page) (is_new ∙ ap (λ xs. overwritten xs offset bytes) is_part)
