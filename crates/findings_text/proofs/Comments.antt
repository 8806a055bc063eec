-- What comments say, line by line.
use mir.Val.{bool_byte}
use Rattle.std.proofs.Common.{◌≡◌, ℕ, ◌+◌, ◌≤◌, List, [], ◌∷◌, ◌++◌, Option, Some, None, Bool, true, false, cond, refl, sym, ap, ◌∙◌, append_assoc, arith}
use Rattle.std.specs.Prelude.{count_by}
use Rattle.std.proofs.lemmas.List.{append-nil}
use Rattle.std.proofs.lemmas.List.Sums.{sum_by-cons}
use Rattle.text.specs.Text.{cut, pieces}
use Rattle.text.proofs.Pieces.{pieces-cut, pieces-no_cut}
use Rattle.findings_text.specs.declared.remarks.Named.{Named}
use Rattle.findings_text.specs.Remarks.{is_left_out, name_by, names_from, noted_location, remarks_of, stated_id, told}

-- one line more
pub names_next : (before next : Option ℕ) (line after text : List ℕ) (all old new : List Named) → Some (line, after) ≡ cut 10 text
    → all ≡ old ++ names_from before (pieces text) → new ≡ old ++ name_by before (noted_location line) → next ≡ stated_id line → all ≡ new ++ names_from next (pieces after)
names_next before next line after text all old new found so_far added stated =
    let more : List Named = names_from (stated_id line) (pieces after) in
    so_far ∙ ap (λ (ls : List (List ℕ)). old ++ names_from before ls) (pieces-cut line after text found)
    ∙ sym (append_assoc old (name_by before (noted_location line)) more)
    ∙ ap (λ (ns : List Named). ns ++ more) (sym added)
    ∙ ap (λ (o : Option ℕ). new ++ names_from o (pieces after)) (sym stated)

-- the last line
pub names_end : (before : Option ℕ) (text : List ℕ) (all old new : List Named) → None ≡ cut 10 text
    → all ≡ old ++ names_from before (pieces text) → new ≡ old ++ name_by before (noted_location text) → new ≡ all
names_end before text all old new missing so_far added =
    added ∙ ap (λ (ns : List Named). old ++ ns) (sym (append-nil (name_by before (noted_location text))))
    ∙ ap (λ (ls : List (List ℕ)). old ++ names_from before ls) (sym (pieces-no_cut text missing))
    ∙ sym so_far

counted : (line : List ℕ) (rest : List (List ℕ)) → count_by is_left_out (line ∷ rest) ≡ cond (is_left_out line) 1 0 + count_by is_left_out rest
counted line rest = sum_by-cons (λ (l : List ℕ). cond (is_left_out l) 1 0) line rest

one_if : (is : Bool) → bool_byte is ≡ cond is 1 0
one_if true = refl
one_if false = refl

pub one_at_most : (is : Bool) → bool_byte is ≤ 1
one_at_most true = omega arith
one_at_most false = omega arith

-- one line more is counted
pub count_next : (line after text : List ℕ) (all old : ℕ) (is : Bool) (one : ℕ) → Some (line, after) ≡ cut 10 text → is ≡ is_left_out line → one ≡ bool_byte is
    → all ≡ old + count_by is_left_out (pieces text) → all ≡ old + one + count_by is_left_out (pieces after)
count_next line after text all old is one found is_is one_is so_far =
    let here : count_by is_left_out (pieces text) ≡ cond (is_left_out line) 1 0 + count_by is_left_out (pieces after) = ap (count_by is_left_out) (pieces-cut line after text found) ∙ counted line (pieces after) in
    let one_here : one ≡ cond (is_left_out line) 1 0 = one_is ∙ one_if is ∙ ap (λ (b : Bool). cond b 1 0) is_is in
    omega arith

-- the last line is counted
pub count_end : (text : List ℕ) (all old : ℕ) (is : Bool) (one : ℕ) → None ≡ cut 10 text → is ≡ is_left_out text → one ≡ bool_byte is
    → all ≡ old + count_by is_left_out (pieces text) → old + one ≡ all
count_end text all old is one missing is_is one_is so_far =
    let here : count_by is_left_out (pieces text) ≡ cond (is_left_out text) 1 0 + 0 = ap (count_by is_left_out) (pieces-no_cut text missing) ∙ counted text [] in
    let one_here : one ≡ cond (is_left_out text) 1 0 = one_is ∙ one_if is ∙ ap (λ (b : Bool). cond b 1 0) is_is in
    omega arith

-- all lines
pub told_is : (text : List ℕ) (names : List Named) (left_out : ℕ) → names ≡ names_from None (pieces text) → left_out ≡ count_by is_left_out (pieces text)
    → told names left_out ≡ remarks_of text
unfolding remarks_of
told_is text names left_out named counted = ap (λ (ns : List Named). told ns left_out) named ∙ ap (told (names_from None (pieces text))) counted
