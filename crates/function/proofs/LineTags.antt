-- A read line has a Tag of 0 to 7, so that a look at those numbers finds each.
use Rattle.std.proofs.Common.{◌≡◌, ℕ, zero, suc, ◌<◌, Bool, true, ◌&&◌, ◌==◌, List, All, filter, get_or, refl, sym, ◌∙◌, ap, eq-eqb, arith}
use Rattle.std.specs.Cmp.{both_ways}
use Rattle.std.specs.List.{list_any}
use Rattle.std.proofs.lemmas.Bool.{and_from, and_parts}
use Rattle.std.proofs.lemmas.List.Elements.{All-contains}
use Rattle.std.proofs.lemmas.List.Folds.{Any-from_list_any, list_any_at}
use Rattle.fab_types.specs.declared.origin.Origin.TheVariants.{Function}
use Rattle.fab_types.specs.Origins.{same_origin}
use Rattle.function.specs.declared.tags.OpenTag.{OpenTag}
use Rattle.function.specs.Tags.{awaits_line, is_line, line_numbers}
use Rattle.function.proofs.Numbers.{any_passed}

number_stands : (n : ℕ) → n < 8 → get_or line_numbers n 0 ≡ n
number_stands zero low = refl
number_stands (suc zero) low = refl
number_stands (suc (suc zero)) low = refl
number_stands (suc (suc (suc zero))) low = refl
number_stands (suc (suc (suc (suc zero)))) low = refl
number_stands (suc (suc (suc (suc (suc zero))))) low = refl
number_stands (suc (suc (suc (suc (suc (suc zero)))))) low = refl
number_stands (suc (suc (suc (suc (suc (suc (suc zero))))))) low = refl
number_stands (suc (suc (suc (suc (suc (suc (suc (suc n)))))))) low = absurd (omega (arith, low))

module _ (tags : List OpenTag) (function : ℕ) (low : All (λ t. is_line t.usage ≡ true → t.tag < 8) tags) where
  abbrev awaited : OpenTag → Bool
  awaited t = same_origin t.owner (Function function) && is_line t.usage

  abbrev at : ℕ → Bool
  at number = awaits_line (filter (λ t. t.tag == number) tags) function

  awaited_at : (number : ℕ) → at number ≡ list_any (λ t. awaited t && (t.tag == number)) tags
  awaited_at number = any_passed awaited (λ t. t.tag == number) tags

  found : list_any at line_numbers ≡ true → awaits_line tags function ≡ true
  found h =
      let n = Any-from_list_any at line_numbers h in
      let t = Any-from_list_any (λ t. awaited t && (t.tag == n.1)) tags (sym (awaited_at n.1) ∙ n.4) in
      list_any_at awaited tags t.0 t.1 t.2 (ap awaited t.3 ∙ (and_parts (awaited t.1) (t.1.tag == n.1) t.4).0)

  stands : awaits_line tags function ≡ true → list_any at line_numbers ≡ true
  stands h =
      let t = Any-from_list_any awaited tags h in
      let line : is_line t.1.usage ≡ true = (and_parts (same_origin t.1.owner (Function function)) (is_line t.1.usage) t.4).1 in
      let below : t.1.tag < 8 = All-contains (λ u. is_line u.usage ≡ true → u.tag < 8) tags t.1 low (t.0, t.2, t.3) line in
      let here : at t.1.tag ≡ true = awaited_at t.1.tag ∙ list_any_at (λ u. awaited u && (u.tag == t.1.tag)) tags t.0 t.1 t.2
      (ap (λ u. awaited u && (u.tag == t.1.tag)) t.3 ∙ and_from (awaited t.1) (t.1.tag == t.1.tag) t.4 (eq-eqb t.1.tag t.1.tag refl)) in
      list_any_at at line_numbers t.1.tag 0 below (ap at (number_stands t.1.tag below) ∙ here)

  pub line_numbers_suffice : list_any at line_numbers ≡ awaits_line tags function
  line_numbers_suffice = both_ways (list_any at line_numbers) (awaits_line tags function) found stands
