-- A text that begins with a line, which has no line feed, and a line feed is split behind it.
use Rattle.std.proofs.Common.{◌≡◌, ℕ, ◌==◌, Bool, true, not, refl, ap, ◌∙◌, List, [], ◌∷◌, ◌++◌}
use Rattle.std.specs.List.{list_all}
use Rattle.std.proofs.lemmas.Bool.{and_from, and_parts, cond-false, not-true}
use Rattle.text.specs.Text.{before_line, pieces}
use Rattle.text.specs.Words.{IsWord, is_inner}

-- no line feed
abbrev pub is_inline : ℕ → Bool
is_inline b = not (b == 10)

abbrev pub IsLine : List ℕ → Type 0
IsLine line = list_all is_inline line ≡ true

pub pieces_line : (line rest : List ℕ) → IsLine line → pieces (line ++ (10 ∷ rest)) ≡ line ∷ pieces rest
pieces_line [] rest h = refl
pieces_line (b ∷ line) rest h =
    let parts = and_parts (is_inline b) (list_all is_inline line) h in
    cond-false (b == 10) ([] ∷ pieces (line ++ (10 ∷ rest))) (before_line b (pieces (line ++ (10 ∷ rest)))) (not-true (b == 10) parts.0)
    ∙ ap (before_line b) (pieces_line line rest parts.1)

pub lines_joined : (v w : List ℕ) → IsLine v → IsLine w → IsLine (v ++ w)
lines_joined [] w hv hw = hw
lines_joined (b ∷ v) w hv hw =
    let parts = and_parts (is_inline b) (list_all is_inline v) hv in
    and_from (is_inline b) (list_all is_inline (v ++ w)) parts.0 (lines_joined v w parts.1 hw)

-- what passes a test that a line feed does not pass
pub line_of : (p : ℕ → Bool) → ((b : ℕ) → p b ≡ true → is_inline b ≡ true) → (text : List ℕ) → list_all p text ≡ true → IsLine text
line_of p passes [] h = refl
line_of p passes (b ∷ text) h =
    let parts = and_parts (p b) (list_all p text) h in
    and_from (is_inline b) (list_all is_inline text) (passes b parts.0) (line_of p passes text parts.1)

pub line_of_word : (w : List ℕ) → IsWord w → IsLine w
line_of_word w word = line_of is_inner (λ b h. (and_parts (not (b == 32)) (not (b == 10)) h).1) w word
