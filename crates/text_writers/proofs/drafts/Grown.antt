-- A text that is read, with one line more: that line is read behind the others.
use Rattle.std.proofs.Common.{◌≡◌, ℕ, ◌==◌, Bool, true, false, cond, refl, sym, ap, ◌∙◌, List, [], ◌∷◌, ◌++◌, Option, Some, None}
use Rattle.std.specs.Prelude.{Result, Ok, Err}
use Rattle.fab_types.specs.declared.faults.layout.LayoutCause.{LayoutCause}
use Rattle.fab_types.specs.declared.faults.layout.LayoutCause.TheVariants as cause
use Rattle.fab_types.specs.declared.faults.layout.LayoutFault.{LayoutFault}
use Rattle.text.specs.Text.{before_line, is_last, pieces}
use Rattle.text.proofs.LineLemmas.{IsLine, pieces_line}
use Rattle.text.proofs.Pieces.{some-piece}
use Rattle.layout.specs.Reading.{and_on, ended, fault_at, next_number, read_after, read_from, read_pieces, reading, version_of, with_line}
use Rattle.platform.specs.declared.parts.LayoutVersion.{LayoutVersion}
use Rattle.platform.specs.Platform.{Platform, no_lines}
use Rattle.platform.specs.Tree.{has_root}

-- ---- the pieces of a text with a line more

-- a line in place of the last piece, and behind it nothing
abbrev pub grow : List (List ℕ) → List ℕ → List (List ℕ)
grow [] x = x ∷ [] ∷ []
grow (line ∷ rest) x = cond (is_last rest) (x ∷ [] ∷ []) (line ∷ grow rest x)

-- the last piece
abbrev pub last_of : List (List ℕ) → List ℕ
last_of [] = []
last_of (line ∷ rest) = cond (is_last rest) line (last_of rest)

grown-piece : (b : ℕ) (lines : List (List ℕ)) (x : List ℕ) → is_last lines ≡ false → last_of (before_line b lines) ≡ [] → before_line b (grow lines x) ≡ grow (before_line b lines) x
grown-piece b [] x some ends = absurd cc
grown-piece b (line ∷ []) x some ends = absurd cc
grown-piece b (line ∷ next ∷ rest) x some ends = refl

last-before : (b : ℕ) (lines : List (List ℕ)) → is_last lines ≡ false → last_of (before_line b lines) ≡ [] → last_of lines ≡ []
last-before b [] some ends = refl
last-before b (line ∷ []) some ends = absurd cc
last-before b (line ∷ next ∷ rest) some ends = ends

grown-on : (ends : Bool) (b : ℕ) (lines more : List (List ℕ)) (x : List ℕ) → is_last lines ≡ false
    → (last_of lines ≡ [] → more ≡ grow lines x)
    → last_of (cond ends ([] ∷ lines) (before_line b lines)) ≡ []
    → cond ends ([] ∷ more) (before_line b more) ≡ grow (cond ends ([] ∷ lines) (before_line b lines)) x
grown-on true b lines more x some same last =
    let is : last_of lines ≡ [] = rw some at last in
    ap (λ (ls : List (List ℕ)). [] ∷ ls) (same is) ∙ sym (rw some refl)
grown-on false b lines more x some same last =
    ap (before_line b) (same (last-before b lines some last)) ∙ grown-piece b lines x some last

pub pieces-grown : (text x : List ℕ) → IsLine x → last_of (pieces text) ≡ [] → pieces (text ++ (x ++ (10 ∷ []))) ≡ grow (pieces text) x
pieces-grown [] x line ends = pieces_line x [] line
pieces-grown (b ∷ text) x line ends =
    grown-on (b == 10) b (pieces text) (pieces (text ++ (x ++ (10 ∷ [])))) x (some-piece text) (pieces-grown text x line) ends

-- ---- reading them

grown-some : (lines : List (List ℕ)) (x : List ℕ) → is_last (grow lines x) ≡ false
grown-some [] x = refl
grown-some (line ∷ rest) x = go (is_last rest) refl
  where
    go : (b : Bool) → is_last rest ≡ b → is_last (grow (line ∷ rest) x) ≡ false
    go true e = rw e refl
    go false e = rw e refl

-- what is read with the line more, and what is known of the text
pub record Grows (p q : Platform) (number : ℕ) (lines : List (List ℕ)) : Type 0 where
  pub later : ℕ
  pub more : (x : List ℕ) → read_from p number (grow lines x) ≡ read_from q later (x ∷ [] ∷ [])
  pub last : last_of lines ≡ []
  pub root : has_root q.switches ≡ true

abbrev okay : Platform → Result Platform LayoutFault
okay p = Ok p

record IsEnd (p q : Platform) (line : List ℕ) : Type 0 where
  same : p ≡ q
  empty : line ≡ []
  root : has_root p.switches ≡ true

is-end : (p q : Platform) (number : ℕ) (line : List ℕ) → ended p number line ≡ Ok q → IsEnd p q line
is-end p q number [] e = go (has_root p.switches) refl
  where
    go : (b : Bool) → has_root p.switches ≡ b → IsEnd p q []
    go true h = let s : okay p ≡ Ok q = rw h at e in record { same = cc; empty = refl; root = h }
    go false h = let s : Err (fault_at number cause.Line) ≡ Ok q = rw h at e in absurd cc
is-end p q number (b ∷ line) e = absurd cc

not-last : (p q : Platform) (number : ℕ) (line : List ℕ) (rest : List (List ℕ)) (step : Result Platform LayoutCause) → with_line p line ≡ step → is_last rest ≡ false
    → ((next : Platform) → read_from next (next_number number) rest ≡ Ok q → Grows next q (next_number number) rest)
    → and_on number (λ next. read_from next (next_number number) rest) step ≡ Ok q → Grows p q number (line ∷ rest)
not-last p q number line rest (Ok next) w last again h =
    let on = again next h in
    record {
      later = on.later;
      more = λ x. rw (last, grown-some rest x, w) (on.more x);
      last = rw last on.last;
      root = on.root;
    }
not-last p q number line rest (Err refusal) w last again h = absurd cc

at-line : (p q : Platform) (number : ℕ) (line : List ℕ) (rest : List (List ℕ)) (b : Bool) → is_last rest ≡ b
    → ((next : Platform) → read_from next (next_number number) rest ≡ Ok q → Grows next q (next_number number) rest)
    → read_from p number (line ∷ rest) ≡ Ok q → Grows p q number (line ∷ rest)
at-line p q number line rest true last again e =
    let s : ended p number line ≡ Ok q = rw last at e in
    let end = is-end p q number line s in
    let same : p ≡ q = end.same in
    record {
      later = number;
      more = λ x. rw last (ap (λ (p : Platform). read_from p number (x ∷ [] ∷ [])) same);
      last = rw last end.empty;
      root = ap (λ (p : Platform). has_root p.switches) (sym same) ∙ end.root;
    }
at-line p q number line rest false last again e =
    let s : and_on number (λ next. read_from next (next_number number) rest) (with_line p line) ≡ Ok q = rw last at e in
    not-last p q number line rest (with_line p line) refl last again s

grows : (p q : Platform) (number : ℕ) (lines : List (List ℕ)) → read_from p number lines ≡ Ok q → Grows p q number lines
grows p q number [] e = absurd cc
grows p q number (line ∷ rest) e = at-line p q number line rest (is_last rest) refl (λ next h. grows next q (next_number number) rest h) e

-- ---- the whole text

-- what a text that is read is with one line more
pub record IsGrown (text : List ℕ) (p : Platform) : Type 0 where
  pub later : ℕ
  pub more : (x : List ℕ) → IsLine x → reading (text ++ (x ++ (10 ∷ []))) ≡ read_from p later (x ∷ [] ∷ [])
  pub root : has_root p.switches ≡ true

pieces-grow : (lines : List (List ℕ)) (p : Platform) → read_pieces lines ≡ Ok p
    → (n : ℕ) × ((x : List ℕ) → read_pieces (grow lines x) ≡ read_from p n (x ∷ [] ∷ [])) × (last_of lines ≡ []) × (has_root p.switches ≡ true)
pieces-grow [] p e = absurd cc
pieces-grow (first ∷ rest) p e = with-version (version_of first) refl e
  where
    behind : (version : LayoutVersion) (b : Bool) → version_of first ≡ Some version → is_last rest ≡ b → read_after (Some version) rest ≡ Ok p
        → (n : ℕ) × ((x : List ℕ) → read_pieces (grow (first ∷ rest) x) ≡ read_from p n (x ∷ [] ∷ [])) × (last_of (first ∷ rest) ≡ []) × (has_root p.switches ≡ true)
    behind version true v last h = let s : Err (fault_at 1 cause.Line) ≡ Ok p = rw last at h in absurd cc
    behind version false v last h =
        let s : read_from (no_lines version) 2 rest ≡ Ok p = rw last at h in
        let on = grows (no_lines version) p 2 rest s in
        (on.later, (λ x. rw (last, v, grown-some rest x) (on.more x)), rw last on.last, on.root)

    with-version : (version : Option LayoutVersion) → version_of first ≡ version → read_after version rest ≡ Ok p
        → (n : ℕ) × ((x : List ℕ) → read_pieces (grow (first ∷ rest) x) ≡ read_from p n (x ∷ [] ∷ [])) × (last_of (first ∷ rest) ≡ []) × (has_root p.switches ≡ true)
    with-version None v h = absurd cc
    with-version (Some version) v h = behind version (is_last rest) v refl h

pub is-grown : (text : List ℕ) (p : Platform) → reading text ≡ Ok p → IsGrown text p
unfolding reading
is-grown text p e =
    let on = pieces-grow (pieces text) p e in
    record {
      later = on.0;
      more = λ x line. ap read_pieces (pieces-grown text x line on.2) ∙ on.1 x;
      root = on.3;
    }
