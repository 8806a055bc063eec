-- A text split at line feeds is its first line and the rest, split.
use Rattle.std.proofs.Common.{◌≡◌, ℕ, suc, ltb-true, ltb-false, ◌+◌, ◌<◌, ◌≤◌, ◌==◌, Bool, true, false, cond, List, [], ◌∷◌, length, take, drop, Option, Some, None, refl, sym, ap, arith, add-one}
use Rattle.std.specs.Prelude.{not, nat_lt, option_map}
use Rattle.std.specs.List.{position_or_len}
use Rattle.text.specs.Text.{cut, cut_at, is_byte, pieces, before_line, is_last}

found : (ends : Bool) (b n m : ℕ) (text : List ℕ) → n ≡ cond (not ends) (1 + m) 0 → n < length (b ∷ text)
    → (m < length text → pieces text ≡ take m text ∷ pieces (drop (m + 1) text))
    → cond ends ([] ∷ pieces text) (before_line b (pieces text)) ≡ take n (b ∷ text) ∷ pieces (drop (n + 1) (b ∷ text))
found true b n m text e below rest = rw e refl
found false b n m text e below rest =
    let k : n ≡ suc m = omega arith in
    let h : m < length text = omega arith in
    let r : pieces text ≡ take m text ∷ pieces (drop (suc m) text) = rw add-one at (rest h) in
    rw (k, add-one, r) refl

pieces-found : (text : List ℕ) → position_or_len (is_byte 10) text < length text
    → pieces text ≡ take (position_or_len (is_byte 10) text) text ∷ pieces (drop (position_or_len (is_byte 10) text + 1) text)
pieces-found [] below = absurd (omega arith)
pieces-found (b ∷ text) below =
    found (b == 10) b (position_or_len (is_byte 10) (b ∷ text)) (position_or_len (is_byte 10) text) text refl below (pieces-found text)

missing : (ends : Bool) (b m : ℕ) (text : List ℕ) → length (b ∷ text) ≤ cond (not ends) (1 + m) 0
    → (length text ≤ m → pieces text ≡ text ∷ [])
    → cond ends ([] ∷ pieces text) (before_line b (pieces text)) ≡ (b ∷ text) ∷ []
missing true b m text above rest = absurd (omega arith)
missing false b m text above rest =
    let h : length text ≤ m = omega arith in
    rw (rest h) refl

pieces-missing : (text : List ℕ) → length text ≤ position_or_len (is_byte 10) text → pieces text ≡ text ∷ []
pieces-missing [] above = refl
pieces-missing (b ∷ text) above = missing (b == 10) b (position_or_len (is_byte 10) text) text above (pieces-missing text)

abbrev before_cut : Option (List ℕ × List ℕ) → List ℕ
before_cut None = []
before_cut (Some parts) = parts.0

abbrev after_cut : Option (List ℕ × List ℕ) → List ℕ
after_cut None = []
after_cut (Some parts) = parts.1

-- where the text is cut at a line feed, its pieces are the line and those of the rest
cut-line : (place : ℕ) (test : Bool) (before after text : List ℕ) → test ≡ nat_lt place (length text) → place ≡ position_or_len (is_byte 10) text
    → Some (before, after) ≡ option_map (cut_at text) (cond test (Some place) None)
    → pieces text ≡ before ∷ pieces after
cut-line place true before after text t p e =
    let below : position_or_len (is_byte 10) text < length text = omega (arith, sym t, ltb-true) in
    let b : before ≡ take place text = ap before_cut e in
    let a : after ≡ drop (place + 1) text = ap after_cut e in
    let q : position_or_len (is_byte 10) text ≡ place = sym p in
    rw (b, a) (rw q at (pieces-found text below))
cut-line place false before after text t p e = absurd cc

pub pieces-cut : (before after text : List ℕ) → Some (before, after) ≡ cut 10 text → pieces text ≡ before ∷ pieces after
unfolding cut
pieces-cut before after text e = cut-line (position_or_len (is_byte 10) text) (nat_lt (position_or_len (is_byte 10) text) (length text)) before after text refl refl e

no-cut-line : (place : ℕ) (test : Bool) (text : List ℕ) → test ≡ nat_lt place (length text) → place ≡ position_or_len (is_byte 10) text
    → None ≡ option_map (cut_at text) (cond test (Some place) None)
    → pieces text ≡ text ∷ []
no-cut-line place true text t p e = absurd cc
no-cut-line place false text t p e = pieces-missing text (omega (arith, sym t, ltb-false))

pub pieces-no_cut : (text : List ℕ) → None ≡ cut 10 text → pieces text ≡ text ∷ []
unfolding cut
pieces-no_cut text e = no-cut-line (position_or_len (is_byte 10) text) (nat_lt (position_or_len (is_byte 10) text) (length text)) text refl refl e

more-lines : (ends : Bool) (b : ℕ) (lines : List (List ℕ)) → is_last lines ≡ false → is_last (cond ends ([] ∷ lines) (before_line b lines)) ≡ false
more-lines true b lines h = refl
more-lines false b [] h = h
more-lines false b (line ∷ lines) h = refl

-- there is a piece in each text
pub some-piece : (text : List ℕ) → is_last (pieces text) ≡ false
some-piece [] = refl
some-piece (b ∷ text) = more-lines (b == 10) b (pieces text) (some-piece text)
