-- Lines that are added one after another, none of which is faulty, are read.
use Rattle.std.proofs.Common.{◌≡◌, ℕ, true, false, refl, ap, sym, ◌∙◌, List, [], ◌∷◌, ◌++◌, Option, Some, None, Ok, append_assoc}
use Rattle.std.specs.Prelude.{map}
use Rattle.std.specs.List.{flat_map}
use Rattle.std.proofs.lemmas.Bool.{cond-false}
use Rattle.std.proofs.lemmas.List.{append-nil}
use Rattle.fab_types.specs.declared.faults.layout.LayoutCause.{LayoutCause}
use Rattle.text.specs.Text.{is_comment, is_last, pieces}
use Rattle.text.proofs.LineLemmas.{IsLine, pieces_line}
use Rattle.text.proofs.Pieces.{some-piece}
use Rattle.layout_line.specs.declared.lines.LayoutLine.{LayoutLine}
use Rattle.layout_line.specs.LayoutLines.{layout_line_of}
use Rattle.platform.specs.declared.parts.LayoutVersion.{LayoutVersion}
use Rattle.platform.specs.declared.parts.LayoutVersion.TheVariants.{One, Two}
use Rattle.platform.specs.Platform.{Platform, no_lines}
use Rattle.platform.specs.Tree.{has_root}
use Rattle.layout.specs.Additions.{add}
use Rattle.layout.specs.Reading.{and_on, ended, next_number, read_after, read_from, read_pieces, reading, unless_faulty, version_of, with_form, with_layout_line, with_line}
use Rattle.layout.specs.Rules.{fault_of}
use Rattle.text_writers.specs.LayoutLineTexts.{layout_line_text}
use Rattle.text_writers.specs.LineRanges.{IsInRange}
use Rattle.text_writers.proofs.lines.LinesRead.{layout_line_read}
use Rattle.text_writers.proofs.lines.WrittenLines.{layout_line_is_line, no_comment}
use Rattle.text_writers.specs.PlatformLines.{lines_of}
use Rattle.text_writers.specs.LayoutTexts.{lines_text, text_of, version_text}

-- ---- lines added

abbrev pub unless : Option LayoutCause → Option Platform → Option Platform
unless None after = after
unless (Some refusal) after = None

-- a platform with these lines more, if none is faulty
abbrev pub after : Platform → List LayoutLine → Option Platform
after platform [] = Some platform
after platform (line ∷ lines) = unless (fault_of platform line) (after (add platform line) lines)

pub one-after : (p : Platform) (line : LayoutLine) (q : Platform) → fault_of p line ≡ None → add p line ≡ q → after p (line ∷ []) ≡ Some q
one-after p line q none is = ap (λ (o : Option LayoutCause). unless o (Some (add p line))) none ∙ ap Some is

unless-on : (o : Option LayoutCause) (x y : Option Platform) (q : Platform) → unless o x ≡ Some q → (x ≡ Some q → y ≡ y) → (o ≡ None) × (x ≡ Some q)
unless-on None x y q h k = (refl, h)
unless-on (Some refusal) x y q h k = absurd cc

pub both-after : (xs ys : List LayoutLine) (p q : Platform) (r : Option Platform) → after p xs ≡ Some q → after q ys ≡ r → after p (xs ++ ys) ≡ r
both-after [] ys p q r first then = let same : q ≡ p = cc in rw same at then
both-after (x ∷ xs) ys p q r first then =
    let parts = unless-on (fault_of p x) (after (add p x) xs) None q first (λ e. refl) in
    ap (λ (o : Option LayoutCause). unless o (after (add p x) (xs ++ ys))) parts.0 ∙ both-after xs ys (add p x) q r parts.1 then

-- one part after another
module _ {X : Type 0} (lines : X → List LayoutLine) (state : List X → List X → Platform) (full : List X)
    (step : (done : List X) (x : X) (rest : List X) → full ≡ done ++ x ∷ rest → after (state done (x ∷ rest)) (lines x) ≡ Some (state (done ++ x ∷ []) rest)) where
  each-after : (done rest : List X) → full ≡ done ++ rest → after (state done rest) (flat_map lines rest) ≡ Some (state full [])
  each-after done [] e = let same : done ≡ full = sym (e ∙ append-nil done) in ap (λ (xs : List X). Some (state xs [])) same
  each-after done (x ∷ rest) e =
      both-after (lines x) (flat_map lines rest) (state done (x ∷ rest)) (state (done ++ x ∷ []) rest) (Some (state full [])) (step done x rest e)
      (each-after (done ++ x ∷ []) rest (e ∙ sym (append_assoc done (x ∷ []) rest)))

  pub all-after : after (state [] full) (flat_map lines full) ≡ Some (state full [])
  all-after = each-after [] full refl

pub map-lines : {X : Type 0} (line : X → LayoutLine) (xs : List X) → map line xs ≡ flat_map (λ x. line x ∷ []) xs
map-lines line [] = refl
map-lines line (x ∷ xs) = ap (λ (ls : List LayoutLine). line x ∷ ls) (map-lines line xs)

-- ---- their text

abbrev pub AreInRange : List LayoutLine → Type 0
AreInRange [] = Unit {0}
AreInRange (line ∷ lines) = IsInRange line × AreInRange lines

pub in-range-both : (xs ys : List LayoutLine) → AreInRange xs → AreInRange ys → AreInRange (xs ++ ys)
in-range-both [] ys hx hy = hy
in-range-both (x ∷ xs) ys hx hy = (hx.0, in-range-both xs ys hx.1 hy)

line-added : (p : Platform) (line : LayoutLine) → IsInRange line → fault_of p line ≡ None → with_line p (layout_line_text line) ≡ Ok (add p line)
unfolding with_line with_layout_line
line-added p line is none =
    cond-false (is_comment (layout_line_text line)) (Ok p) (with_form p (layout_line_of (layout_line_text line))) (no_comment line)
    ∙ ap (with_form p) (layout_line_read line is)
    ∙ ap (λ (o : Option LayoutCause). unless_faulty o (add p line)) none

line-on : (p : Platform) (number : ℕ) (line : LayoutLine) (rest : List ℕ) → IsInRange line → fault_of p line ≡ None
    → read_from p number (pieces (layout_line_text line ++ (10 ∷ rest))) ≡ read_from (add p line) (next_number number) (pieces rest)
line-on p number line rest is none =
    let on = λ (next : Platform). read_from next (next_number number) (pieces rest) in
    ap (read_from p number) (pieces_line (layout_line_text line) rest (layout_line_is_line line is))
    ∙ cond-false (is_last (pieces rest)) (ended p number (layout_line_text line)) (and_on number on (with_line p (layout_line_text line))) (some-piece rest)
    ∙ ap (and_on number on) (line-added p line is none)

ended-well : (p : Platform) (number : ℕ) → has_root p.switches ≡ true → ended p number [] ≡ Ok p
ended-well p number root = rw root refl

lines-read : (lines : List LayoutLine) (p q : Platform) (number : ℕ) → AreInRange lines → after p lines ≡ Some q → has_root q.switches ≡ true → read_from p number (pieces (lines_text lines)) ≡ Ok q
lines-read [] p q number are e root = let same : q ≡ p = cc in ended-well p number (rw same at root) ∙ ap Ok (sym same)
lines-read (line ∷ lines) p q number are e root =
    let parts = unless-on (fault_of p line) (after (add p line) lines) None q e (λ e. refl) in
    line-on p number line (lines_text lines) are.0 parts.0
    ∙ lines-read lines (add p line) q (next_number number) are.1 parts.1 root

version-is-line : (version : LayoutVersion) → IsLine (version_text version)
version-is-line One = refl
version-is-line Two = refl

version-read : (version : LayoutVersion) → version_of (version_text version) ≡ Some version
version-read One = refl
version-read Two = refl

after-version : (version : LayoutVersion) (rest : List (List ℕ)) → is_last rest ≡ false → read_after (Some version) rest ≡ read_from (no_lines version) 2 rest
after-version version rest some = rw some refl

-- a platform whose lines can be added is read from its text
pub text-read : (p : Platform) → AreInRange (lines_of p) → after (no_lines p.version) (lines_of p) ≡ Some p → has_root p.switches ≡ true → reading (text_of p) ≡ Ok p
unfolding reading text_of
text-read p are e root =
    let text = lines_text (lines_of p) in
    ap read_pieces (pieces_line (version_text p.version) text (version-is-line p.version))
    ∙ ap (λ (v : Option LayoutVersion). read_after v (pieces text)) (version-read p.version)
    ∙ after-version p.version (pieces text) (some-piece text)
    ∙ lines-read (lines_of p) (no_lines p.version) p 2 are e root
