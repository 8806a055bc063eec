-- The text of a domain's journal is a list of entries with the numbers of their lines, or it has a first
-- faulty line.
use Rattle.std.specs.Prelude.{ℕ, ◌&&◌, Bool, List, [], ◌∷◌, take, drop, codes, is_some, Option, Some, option_map, Result, if◌then◌else◌}
use Rattle.std.specs.List.{list_all, slice_split}
use Rattle.std.specs.Str.{bytes_eq}
use Rattle.fab_types.specs.declared.faults.script.ScriptFault.{ScriptFault}
use Rattle.text.specs.Text.{is_byte, wide_decimal}
use Rattle.text.specs.Reading as lines
use Rattle.journal_text.specs.Fields.{entry_of}
use Rattle.journal_text.specs.declared.read.JournalLine.{JournalLine}

abbrev pub is_number : List ℕ → Bool
is_number word = is_some (wide_decimal word)

-- numbers of 64 bits, with one blank between them
abbrev pub are_numbers : List ℕ → Bool
are_numbers text = list_all is_number (slice_split (is_byte 32) text)

-- `in flight N N ..`, with one number or more
abbrev pub is_in_flight : List ℕ → Bool
is_in_flight line = bytes_eq (take 10 line) (codes "in flight ") && are_numbers (drop 10 line)

-- What a line says that is no comment, in the journal of the domain of this number: what is in flight adds
-- nothing, each other line its entry, if it has one of the forms.
abbrev pub said : ℕ → ℕ → List ℕ → Option (List JournalLine)
said domain number line =
    if is_in_flight line then Some []
    else option_map (λ entry. record { number = number; entry = entry } ∷ []) (entry_of domain line)

-- what a text of at most 16,777,216 lines is: the entries, or its first faulty line
unfoldable pub reading : ℕ → List ℕ → Result (List JournalLine) ScriptFault
reading domain text = lines.reading 16777216 (said domain) text
