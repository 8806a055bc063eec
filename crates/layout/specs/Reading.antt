-- A text is read line by line: it is a platform, or it has a first faulty line.
use Rattle.std.specs.Prelude.{◌≡◌, ℕ, ◌+◌, ◌^◌, ◌-◌, min, Bool, true, ◌&&◌, nat_le, List, [], ◌∷◌, codes, Option, Some, None, Result, Ok, Err, MatchResult, ◌⊎◌, if◌then◌else◌}
use Rattle.std.specs.Str.{bytes_eq}
use Rattle.fab_types.specs.declared.faults.layout.LayoutCause.{LayoutCause}
use Rattle.fab_types.specs.declared.faults.layout.LayoutCause.TheVariants as cause
use Rattle.fab_types.specs.declared.faults.layout.LayoutFault.{LayoutFault}
use Rattle.layout_line.specs.declared.lines.LayoutLine.{LayoutLine}
use Rattle.text.specs.Text.{pieces, is_last, is_comment}
use Rattle.layout_line.specs.LayoutLines.{layout_line_of}
use Rattle.platform.specs.declared.parts.LayoutVersion.{LayoutVersion}
use Rattle.platform.specs.declared.parts.LayoutVersion.TheVariants.{One, Two}
use Rattle.platform.specs.Platform.{Platform, no_lines}
use Rattle.platform.specs.Tree.{has_root}
use Rattle.layout.specs.Rules.{fault_of}
use Rattle.layout.specs.Additions.{add}

abbrev pub unless_faulty : Option LayoutCause → Platform → Result Platform LayoutCause
unless_faulty None platform = Ok platform
unless_faulty (Some refusal) platform = Err refusal

-- a line that says this is added, if nothing is wrong with it. A line of no form is faulty.
unfoldable pub with_layout_line : Platform → LayoutLine → Result Platform LayoutCause
with_layout_line platform statement = unless_faulty (fault_of platform statement) (add platform statement)

abbrev pub with_form : Platform → Option LayoutLine → Result Platform LayoutCause
with_form platform None = Err cause.Line
with_form platform (Some statement) = with_layout_line platform statement

-- a comment says nothing
unfoldable pub with_line : Platform → List ℕ → Result Platform LayoutCause
with_line platform line = if is_comment line then Ok platform else with_form platform (layout_line_of line)

abbrev pub fault_at : ℕ → LayoutCause → LayoutFault
fault_at number refusal = record { cause = refusal; line = number }

-- lines are counted from 1; the count stops at 4,294,967,295
abbrev pub next_number : ℕ → ℕ
next_number number = min (number + 1) (2 ^ 32 - 1)

-- behind the last line feed stands nothing, and by then there is a switch below the root port
abbrev pub ended : Platform → ℕ → List ℕ → Result Platform LayoutFault
ended platform number piece = if bytes_eq piece [] && has_root platform.switches then Ok platform else Err (fault_at number cause.Line)

abbrev pub and_on : ℕ → (Platform → Result Platform LayoutFault) → Result Platform LayoutCause → Result Platform LayoutFault
and_on number go (Ok platform) = go platform
and_on number go (Err refusal) = Err (fault_at number refusal)

-- the lines from this number on, after those that gave this platform; the last piece is no line
abbrev pub read_from : Platform → ℕ → List (List ℕ) → Result Platform LayoutFault
read_from platform number [] = Err (fault_at number cause.Line)
read_from platform number (line ∷ rest) =
    if is_last rest then ended platform number line
    else and_on number (λ next. read_from next (next_number number) rest) (with_line platform line)

-- the first line says the version
abbrev pub version_of : List ℕ → Option LayoutVersion
version_of line =
    if bytes_eq line (codes "pciefab 1") then Some One
    else (if bytes_eq line (codes "pciefab 2") then Some Two else None)

abbrev pub read_after : Option LayoutVersion → List (List ℕ) → Result Platform LayoutFault
read_after None rest = Err (fault_at 1 cause.Line)
read_after (Some version) rest = if is_last rest then Err (fault_at 1 cause.Line) else read_from (no_lines version) 2 rest

abbrev pub read_pieces : List (List ℕ) → Result Platform LayoutFault
read_pieces [] = Err (fault_at 1 cause.Line)
read_pieces (first ∷ rest) = read_after (version_of first) rest

-- what a text is: a platform, or its first faulty line and the least number that applies there
unfoldable pub reading : List ℕ → Result Platform LayoutFault
reading text = read_pieces (pieces text)

-- one line was read as this says, or memory was refused
abbrev pub IsStep : {T : Type 0} → Result Platform LayoutCause → Result T LayoutCause → Platform → Type 0
IsStep expected answer next = MatchResult answer (λ _. expected ≡ Ok next) (λ refusal. (refusal ≡ cause.NoMemory) ⊎ (expected ≡ Err refusal))

-- no line before this one is faulty
abbrev pub is_reached : Result Platform LayoutFault → ℕ → Bool
is_reached (Ok platform) number = true
is_reached (Err fault) number = nat_le number fault.line

-- an answer is what a text is, or memory was refused at a line before which none is faulty
abbrev pub IsReading : Result Platform LayoutFault → Result Platform LayoutFault → Type 0
IsReading expected answer =
    MatchResult answer (λ platform. expected ≡ Ok platform)
    (λ fault. ((fault.cause ≡ cause.NoMemory) × (is_reached expected fault.line ≡ true)) ⊎ (expected ≡ Err fault))
