-- A line is added to a layout exactly where no rule is against it.
use Rattle.std.proofs.Common.{◌≡◌, ℕ, Bool, true, false, refl, sym, ap, ◌∙◌, List, [], ◌∷◌, ◌++◌, Option, Some, None, arith}
use Rattle.std.specs.Prelude.{◌||◌, Result, Ok, Err}
use Rattle.std.specs.List.{list_any, list_all}
use Rattle.std.proofs.lemmas.Bool.{and_parts, and_from, cond-false}
use Rattle.std.proofs.lemmas.Bool.Decides.{nat_tests}
use Rattle.fab_types.specs.declared.faults.layout.LayoutCause.{LayoutCause}
use Rattle.fab_types.specs.declared.faults.layout.LayoutFault.{LayoutFault}
use Rattle.text.specs.Text.{is_comment}
use Rattle.text.proofs.LineLemmas.{IsLine, is_inline}
use Rattle.layout.specs.Additions.{add}
use Rattle.layout.specs.Reading.{and_on, fault_at, next_number, read_from, reading, unless_faulty, with_form, with_layout_line, with_line}
use Rattle.layout.specs.Rules.{fault_of}
use Rattle.layout_line.specs.declared.lines.LayoutLine.{LayoutLine}
use Rattle.layout_line.specs.declared.lines.LayoutLine.TheVariants.{Frames, Root, Switch, Port, Function, Map, Budget, Credit, Egress}
use Rattle.layout_line.specs.LayoutLines.{layout_line_of}
use Rattle.text_writers.specs.LayoutLineTexts.{layout_line_text}
use Rattle.text_writers.specs.LineRanges.{IsInRange}
use Rattle.text_writers.proofs.lines.LinesRead.{layout_line_read}
use Rattle.text_writers.proofs.lines.WrittenLines.{layout_line_is_line, no_comment}
use Rattle.platform.specs.Platform.{Platform}
use Rattle.platform.specs.Tree.{has_root}
use Rattle.text_writers.specs.Comments.{IsPrintable, is_printable}
use Rattle.text_writers.specs.DraftViews.{Written}
use Rattle.text_writers.specs.StatedLines.{IsStated}
use Rattle.text_writers.proofs.drafts.Grown.{is-grown}

-- ---- lines that devices have

pub in-range : (line : LayoutLine) → IsStated line → IsInRange line
in-range (Frames n) h = absurd h
in-range (Root id) h = absurd h
in-range (Switch s) h = h
in-range (Port port) h = h
in-range (Function f) h = h
in-range (Map m) h = h
in-range (Budget b) h = absurd h
in-range (Credit c) h = absurd h
in-range (Egress g) h = h

line-read : (p : Platform) (line : LayoutLine) → IsStated line → with_line p (layout_line_text line) ≡ unless_faulty (fault_of p line) (add p line)
unfolding with_line with_layout_line
line-read p line h =
    cond-false (is_comment (layout_line_text line)) (Ok p) (with_form p (layout_line_of (layout_line_text line))) (no_comment line)
    ∙ ap (with_form p) (layout_line_read line (in-range line h))

any-more : (b : Bool) (rest more : Bool) → (rest ≡ true → more ≡ true) → (b || rest) ≡ true → (b || more) ≡ true
any-more true rest more again h = refl
any-more false rest more again h = again h

any-front : {X : Type 0} (test : X → Bool) (xs ys : List X) → list_any test xs ≡ true → list_any test (xs ++ ys) ≡ true
any-front test [] ys h = absurd cc
any-front test (x ∷ xs) ys h = any-more (test x) (list_any test xs) (list_any test (xs ++ ys)) (any-front test xs ys) h

root-stays : (p : Platform) (line : LayoutLine) → has_root p.switches ≡ true → has_root (add p line).switches ≡ true
root-stays p (Frames n) h = h
root-stays p (Root id) h = any-front _ p.switches _ h
root-stays p (Switch s) h = any-front _ p.switches _ h
root-stays p (Port port) h = h
root-stays p (Function f) h = h
root-stays p (Map m) h = h
root-stays p (Budget b) h = h
root-stays p (Credit c) h = h
root-stays p (Egress g) h = h

-- ---- what the text with such a line is

outcome : ℕ → Platform → LayoutLine → Option LayoutCause → Result Platform LayoutFault
outcome number p line None = Ok (add p line)
outcome number p line (Some refusal) = Err (fault_at number refusal)

at-end : (number : ℕ) (p : Platform) (line : LayoutLine) (o : Option LayoutCause) → has_root p.switches ≡ true
    → and_on number (λ next. read_from next (next_number number) ([] ∷ [])) (unless_faulty o (add p line)) ≡ outcome number p line o
unfolding outcome
at-end number p line None root = let r : has_root (add p line).switches ≡ true = root-stays p line root in rw r refl
at-end number p line (Some refusal) root = refl

longer : (text : List ℕ) (p : Platform) (line : LayoutLine) → IsStated line → reading text ≡ Ok p
    → (number : ℕ) × (reading (text ++ (layout_line_text line ++ (10 ∷ []))) ≡ outcome number p line (fault_of p line))
longer text p line h e =
    let grown = is-grown text p e in
    let on = λ (next : Platform). read_from next (next_number grown.later) ([] ∷ []) in (
      grown.later,
      grown.more (layout_line_text line) (layout_line_is_line line (in-range line h))
          ∙ ap (and_on grown.later on) (line-read p line h)
          ∙ at-end grown.later p line (fault_of p line) grown.root,
    )

taken : (number : ℕ) (p q : Platform) (line : LayoutLine) (o : Option LayoutCause) → fault_of p line ≡ o → outcome number p line o ≡ Ok q → (fault_of p line ≡ None) × (q ≡ add p line)
unfolding outcome
taken number p q line None f e = (f, cc)
taken number p q line (Some refusal) f e = absurd cc

-- where it is read, it was added
pub accepted : (text more : List ℕ) (p q : Platform) (line : LayoutLine) → IsStated line → reading text ≡ Ok p → more ≡ layout_line_text line
    → reading (text ++ (more ++ (10 ∷ []))) ≡ Ok q → (fault_of p line ≡ None) × (q ≡ add p line)
accepted text more p q line h e same read =
    let l = longer text p line h e in
    let r : reading (text ++ (layout_line_text line ++ (10 ∷ []))) ≡ Ok q = rw same at read in
    taken l.0 p q line (fault_of p line) refl (sym l.1 ∙ r)

against : (number : ℕ) (p : Platform) (line : LayoutLine) (f : LayoutFault) (o : Option LayoutCause) → fault_of p line ≡ o → outcome number p line o ≡ Err f → fault_of p line ≡ Some f.cause
unfolding outcome
against number p line f None e r = absurd cc
against number p line f (Some refusal) e r = let same : fault_at number refusal ≡ f = cc in e ∙ ap (λ (g : LayoutFault). Some g.cause) same

-- where it isn't, a rule is against the line
pub refused : (text more : List ℕ) (p : Platform) (f : LayoutFault) (line : LayoutLine) → IsStated line → reading text ≡ Ok p → more ≡ layout_line_text line
    → reading (text ++ (more ++ (10 ∷ []))) ≡ Err f → fault_of p line ≡ Some f.cause
refused text more p f line h e same read =
    let l = longer text p line h e in
    let r : reading (text ++ (layout_line_text line ++ (10 ∷ []))) ≡ Err f = rw same at read in
    against l.0 p line f (fault_of p line) refl (sym l.1 ∙ r)

-- the same layout, and the same text
pub written : (p q : Platform) (one other : List ℕ) → p ≡ q → one ≡ other → ◌≡◌ {A = Written} (record { platform = p; text = one }) (record { platform = q; text = other })
written p q one other same texts = rw (same, texts) refl

-- ---- comments

inline-of : (b : ℕ) → is_printable b ≡ true → is_inline b ≡ true
inline-of b h = grind (arith, nat_tests)

plain-line : (words : List ℕ) → list_all is_printable words ≡ true → IsLine words
plain-line [] h = refl
plain-line (b ∷ words) h =
    let parts = and_parts (is_printable b) (list_all is_printable words) h in
    and_from (is_inline b) (list_all is_inline words) (inline-of b parts.0) (plain-line words parts.1)

comment-line : (words : List ℕ) → list_all is_printable words ≡ true → IsLine (35 ∷ 32 ∷ words)
comment-line words h = plain-line words h

comment-end : (number : ℕ) (p : Platform) (words : List ℕ) → has_root p.switches ≡ true → read_from p number ((35 ∷ words) ∷ [] ∷ []) ≡ Ok p
unfolding with_line
comment-end number p words root = rw root refl

-- a comment says nothing
pub commented : (text words : List ℕ) (p : Platform) → IsPrintable words → reading text ≡ Ok p
    → reading (text ++ (35 ∷ 32 ∷ (words ++ (10 ∷ [])))) ≡ Ok p
commented text words p inside e =
    let grown = is-grown text p e in
    grown.more (35 ∷ 32 ∷ words) (comment-line words inside) ∙ comment-end grown.later p (32 ∷ words) grown.root
