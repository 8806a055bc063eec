-- A dump is read line by line, or it has a first faulty line.
use Rattle.std.specs.Prelude.{◌≡◌, ℕ, ◌+◌, ◌^◌, ◌-◌, min, ◌==◌, Bool, true, false, ◌&&◌, ◌||◌, nat_le, List, [], ◌∷◌, ◌++◌, length, Option, Some, None, Result, Ok, Err, MatchResult, ◌⊎◌, if◌then◌else◌}
use Rattle.std.specs.List.{list_any}
use Rattle.text.specs.Text.{pieces, is_last}
use Rattle.lspci.specs.declared.fault.DumpCause.{DumpCause}
use Rattle.lspci.specs.declared.fault.DumpCause.TheVariants as cause
use Rattle.lspci.specs.declared.fault.DumpFault.{DumpFault}
use Rattle.lspci.specs.declared.lines.Location.{Location}
use Rattle.lspci.specs.declared.lines.Row.{Row}
use Rattle.lspci.specs.declared.lines.DumpLine.{DumpLine}
use Rattle.lspci.specs.declared.lines.DumpLine.TheVariants as says
use Rattle.lspci.specs.declared.dump.Device.{Device}
use Rattle.lspci.specs.declared.dump.Passed.{Passed}
use Rattle.lspci.specs.Dumps.{DumpText}
use Rattle.lspci.specs.Lines.{dump_line_of, is_ragged, trimmed}

abbrev pub empty : DumpText
empty = record { devices = []; bytes = []; current = None; passed = record { lines = 0; ends = 0 } }

-- what is shown of a configuration space: the header, that of a CardBus bridge, what PCI has, or what PCI Express has
abbrev pub is_whole : ℕ → Bool
is_whole count = (count == 64) || (count == 128) || (count == 256) || (count == 4096)

abbrev pub close_device : DumpText → Option Device → Result DumpText DumpCause
close_device dump None = Ok dump
close_device dump (Some device) =
    if is_whole device.count then Ok (record dump { devices = dump.devices ++ device ∷ []; current = None })
    else Err cause.Cut

-- the device whose rows are read ends
unfoldable pub closed : DumpText → Result DumpText DumpCause
closed dump = close_device dump dump.current

-- a device begins in this line
unfoldable pub opened : ℕ → Location → DumpText → Result DumpText DumpCause
opened number location dump =
    if list_any (λ device. (device.location.segment == location.segment) && (device.location.id == location.id)) dump.devices then Err cause.Twice
    else Ok (record dump { current = Some (record { line = number; location = location; first = length dump.bytes; count = 0 }) })

abbrev pub and_then : (DumpText → Result DumpText DumpCause) → Result DumpText DumpCause → Result DumpText DumpCause
and_then go (Ok dump) = go dump
and_then go (Err refusal) = Err refusal

abbrev pub with_device : DumpText → ℕ → Location → Result DumpText DumpCause
with_device dump number location = and_then (opened number location) (closed dump)

abbrev pub row_of_device : DumpText → Row → Option Device → Result DumpText DumpCause
row_of_device dump row None = Err cause.Row
row_of_device dump row (Some device) =
    if row.offset == device.count
    then Ok (record dump { bytes = dump.bytes ++ row.bytes; current = Some (record device { count = row.offset + 16 }) })
    else Err cause.Row

-- a row stands behind those of smaller offsets
unfoldable pub with_row : DumpText → Row → Result DumpText DumpCause
with_row dump row = row_of_device dump row dump.current

-- ---- what is passed over, and counted up to 4,294,967,295

abbrev pub next_number : ℕ → ℕ
next_number number = min (number + 1) (2 ^ 32 - 1)

-- a line without a form, or a detail, is no part of a dump where no device's rows are read
abbrev pub is_foreign : Option DumpLine → Option Device → Bool
is_foreign None None = true
is_foreign (Some says.Detail) None = true
is_foreign _ _ = false

abbrev pub passing : DumpText → DumpText
passing dump = record dump { passed = record { lines = next_number dump.passed.lines; ends = dump.passed.ends } }

-- what is blank at the end of this line is passed over
abbrev pub noting : List ℕ → DumpText → DumpText
noting line dump = if is_ragged line then record dump { passed = record { lines = dump.passed.lines; ends = next_number dump.passed.ends } } else dump

-- ---- lines

abbrev pub with_form : DumpText → ℕ → Option DumpLine → Result DumpText DumpCause
with_form dump number None = Err cause.Line
with_form dump number (Some (says.Device location)) = with_device dump number location
with_form dump number (Some (says.Row row)) = with_row dump row
with_form dump number (Some says.Detail) = Ok dump
with_form dump number (Some says.Blank) = closed dump

abbrev pub unless_foreign : DumpText → ℕ → Option DumpLine → Result DumpText DumpCause
unless_foreign dump number form = if is_foreign form dump.current then Ok (passing dump) else with_form dump number form

unfoldable pub with_line : DumpText → ℕ → List ℕ → Result DumpText DumpCause
with_line dump number line = unless_foreign (noting line dump) number (dump_line_of line)

abbrev pub fault_at : ℕ → DumpCause → DumpFault
fault_at number refusal = record { cause = refusal; line = number }

abbrev pub at_line : ℕ → Result DumpText DumpCause → Result DumpText DumpFault
at_line number (Ok dump) = Ok dump
at_line number (Err refusal) = Err (fault_at number refusal)

abbrev pub unless_empty : Result DumpText DumpCause → Result DumpText DumpCause
unless_empty (Ok dump) = if length dump.devices == 0 then Err cause.Empty else Ok dump
unless_empty (Err refusal) = Err refusal

abbrev pub end_by : DumpText → Option DumpLine → Result DumpText DumpCause
end_by dump form = if is_foreign form dump.current then unless_empty (closed (passing dump)) else Err cause.Line

-- Behind the last line feed stands nothing, or what is no part of a dump. The last device is whole, and there is one
unfoldable pub end_of : DumpText → List ℕ → Result DumpText DumpCause
end_of dump piece = if length (trimmed piece) == 0 then unless_empty (closed dump) else end_by dump (dump_line_of piece)

abbrev pub ended : DumpText → ℕ → List ℕ → Result DumpText DumpFault
ended dump number piece = at_line number (end_of dump piece)

abbrev pub and_on : ℕ → (DumpText → Result DumpText DumpFault) → Result DumpText DumpCause → Result DumpText DumpFault
and_on number go (Ok dump) = go dump
and_on number go (Err refusal) = Err (fault_at number refusal)

-- the lines, counted from 1, from this number on, after those that gave this dump; the last piece is no line
abbrev pub read_from : DumpText → ℕ → List (List ℕ) → Result DumpText DumpFault
read_from dump number [] = Err (fault_at number cause.Line)
read_from dump number (line ∷ rest) =
    if is_last rest then ended dump number line
    else and_on number (λ next. read_from next (next_number number) rest) (with_line dump number line)

-- what a text is: the devices that it shows, or its first faulty line
unfoldable pub reading : List ℕ → Result DumpText DumpFault
reading text = read_from empty 1 (pieces text)

-- one line was read as this says, or memory was refused
abbrev pub IsStep : {T : Type 0} → Result DumpText DumpCause → Result T DumpCause → DumpText → Type 0
IsStep expected answer next = MatchResult answer (λ _. expected ≡ Ok next) (λ refusal. (refusal ≡ cause.NoMemory) ⊎ (expected ≡ Err refusal))

-- no line before this one is faulty
abbrev pub is_reached : Result DumpText DumpFault → ℕ → Bool
is_reached (Ok dump) number = true
is_reached (Err fault) number = nat_le number fault.line

-- an answer is what a text is, or memory was refused at a line before which none is faulty
abbrev pub IsReading : Result DumpText DumpFault → Result DumpText DumpFault → Type 0
IsReading expected answer =
    MatchResult answer (λ dump. expected ≡ Ok dump)
    (λ fault. ((fault.cause ≡ cause.NoMemory) × (is_reached expected fault.line ≡ true)) ⊎ (expected ≡ Err fault))
