-- Where an element stands that a search finds.
use Rattle.std.proofs.Common.{◌≡◌, ◌==◌, ℕ, Bool, true, false, cond, List, [], length, Option, Some, None, refl, sym, ap, ◌∙◌, eqb-true}
use Rattle.std.specs.Prelude.{IfSome, nat_lt, option_map, slice_index_or}
use Rattle.std.specs.List.{find, position, position_or_len, slice_get}
use Rattle.std.proofs.lemmas.Bool.{ltb-true, ltb-false}
use Rattle.std.proofs.lemmas.List.Folds.{find_at}
use Rattle.std.proofs.lemmas.List.Quantifiers.{position-Some}
use Rattle.std.proofs.lemmas.Option.{slice_get-get_or, slice_get_past}

within : {X : Type 0} (xs : List X) (n : ℕ) (d : X) (b : Bool) → nat_lt n (length xs) ≡ b → slice_get xs n ≡ option_map (λ i. slice_index_or xs i d) (cond b (Some n) None)
within xs n d true e = slice_get-get_or xs n d (ltb-true n (length xs) e)
within xs n d false e = slice_get_past xs n (ltb-false n (length xs) e)

again : (pages : List (ℕ × List ℕ)) (o : Option ℕ) → option_map (λ page. page.1) (option_map (λ i. slice_index_or pages i (0, [])) o) ≡ option_map (λ i. (slice_index_or pages i (0, [])).1) o
again pages None = refl
again pages (Some i) = refl

-- of pages, the bytes of the one that is found stand at the position
pub page_at : (pages : List (ℕ × List ℕ)) (p : ℕ × List ℕ → Bool) → option_map (λ page. page.1) (find p pages) ≡ option_map (λ i. (slice_index_or pages i (0, [])).1) (position p pages)
page_at pages p =
    let n = position_or_len p pages in
    ap (option_map (λ page. page.1)) (find_at p pages ∙ within pages n (0, []) (nat_lt n (length pages)) refl) ∙ again pages (position p pages)

-- what stands at the position has the ID
pub has_id : (pages : List (ℕ × List ℕ)) (id : ℕ) (o : Option ℕ) → o ≡ position (λ page. page.0 == id) pages → IfSome o (λ at. (slice_index_or pages at (0, [])).0 ≡ id)
has_id pages id None e = tt
has_id pages id (Some at) e = eqb-true (slice_index_or pages at (0, [])).0 id (position-Some (λ page. page.0 == id) pages at (0, []) (sym e)).1
