-- The lines of a text, by their numbers.
use Rattle.std.proofs.Common.{◌≡◌, ℕ, ◌+◌, ◌-◌, ◌<◌, ◌≤◌, List, [], ◌∷◌, length, drop, Some, None, sym, ap, ◌∙◌, arith, drop-drop}
use Rattle.std.proofs.lemmas.List.{length-drop}
use Rattle.text.specs.Text.{cut, pieces}
use Rattle.text.proofs.Pieces.{pieces-cut, pieces-no_cut}

-- one line more is passed
pub line_passed : (i : ℕ) (before after rest text : List ℕ) → Some (before, after) ≡ cut 10 rest → pieces rest ≡ drop i (pieces text) → pieces after ≡ drop (i + 1) (pieces text)
line_passed i before after rest text e h =
    let next : drop 1 (pieces rest) ≡ pieces after = ap (drop 1) (pieces-cut before after rest e) in
    sym next ∙ ap (drop 1) h ∙ drop-drop 1 i (pieces text)

-- there is no further one
pub line_missing : (i count : ℕ) (rest text : List ℕ) → i < count → None ≡ cut 10 rest → pieces rest ≡ drop i (pieces text) → length (pieces text) ≤ count
line_missing i count rest text more e h =
    let one : drop i (pieces text) ≡ rest ∷ [] = sym h ∙ pieces-no_cut rest e in
    let left : length (pieces text) - i ≡ 1 = sym (length-drop i (pieces text)) ∙ ap length one in
    omega (arith, left)
