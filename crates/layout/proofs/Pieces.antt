-- A text's first line is read, and then the rest.
use Rattle.std.proofs.Common.{◌≡◌, ℕ, inr, List, [], Option, Some, None, refl}
use Rattle.std.specs.Prelude.{Result, Ok, Err}
use Rattle.fab_types.specs.declared.faults.layout.LayoutCause.{LayoutCause}
use Rattle.fab_types.specs.declared.faults.layout.LayoutCause.TheVariants as cause
use Rattle.fab_types.specs.declared.faults.layout.LayoutFault.{LayoutFault}
use Rattle.text.specs.Text.{cut, pieces}
use Rattle.text.proofs.Pieces.{pieces-cut, pieces-no_cut, some-piece}
use Rattle.platform.specs.declared.parts.LayoutVersion.{LayoutVersion}
use Rattle.platform.specs.Platform.{Platform, no_lines}
use Rattle.layout.specs.Reading.{with_line, read_from, next_number, fault_at, ended, read_after, reading, version_of, IsReading}

-- a line that is no last piece is read, and then the rest
pub read-line : (p next : Platform) (number : ℕ) (before after text : List ℕ) → Some (before, after) ≡ cut 10 text → with_line p before ≡ Ok next
    → read_from p number (pieces text) ≡ read_from next (next_number number) (pieces after)
read-line p next number before after text e step = rw (pieces-cut before after text e, some-piece after, step) refl

pub read-fault : (p : Platform) (number : ℕ) (refusal : LayoutCause) (before after text : List ℕ) → Some (before, after) ≡ cut 10 text → with_line p before ≡ Err refusal
    → read_from p number (pieces text) ≡ Err (fault_at number refusal)
read-fault p number refusal before after text e step = rw (pieces-cut before after text e, some-piece after, step) refl

pub read-end : (p : Platform) (number : ℕ) (text : List ℕ) → None ≡ cut 10 text → read_from p number (pieces text) ≡ ended p number text
read-end p number text e = rw (pieces-no_cut text e) refl

-- the text's first line, and the others
pub reading-header : (version : LayoutVersion) (before after text : List ℕ) → Some (before, after) ≡ cut 10 text → version_of before ≡ Some version → reading text ≡ read_from (no_lines version) 2 (pieces after)
unfolding reading
reading-header version before after text e h = rw (pieces-cut before after text e, h, some-piece after) refl

pub reading-other : (before after text : List ℕ) → Some (before, after) ≡ cut 10 text → version_of before ≡ None → reading text ≡ Err (fault_at 1 cause.Line)
unfolding reading
reading-other before after text e h = rw (pieces-cut before after text e, h) refl

no-header : (version : Option LayoutVersion) → read_after version [] ≡ Err (fault_at 1 cause.Line)
no-header None = refl
no-header (Some version) = refl

pub reading-no_line : (text : List ℕ) → None ≡ cut 10 text → reading text ≡ Err (fault_at 1 cause.Line)
unfolding reading
reading-no_line text e = rw (pieces-no_cut text e) (no-header (version_of text))

-- the very answer that the text is
pub reading-is : (expected answer : Result Platform LayoutFault) → expected ≡ answer → IsReading expected answer
reading-is expected (Ok p) e = e
reading-is expected (Err f) e = inr e
