-- What a line of a dump says, as `lspci -xxx` prints it.
use Rattle.std.specs.Prelude.{ℕ, zero, suc, ◌+◌, ◌-◌, ◌*◌, ◌^◌, ◌==◌, ◌&&◌, ◌||◌, Bool, false, not, nat_lt, List, [], ◌∷◌, ◌++◌, codes, length, take, slice_index, slice_range, Option, Some, None, option_map, option_and_then, if◌then◌else◌}
use Rattle.std.specs.Char.{is_ascii_whitespace}
use Rattle.std.specs.Fmt.{digits, format_spec, padded_integral}
use Rattle.std.specs.List.{suffix_len}
use Rattle.fab_types.specs.Texts.{id_text}
use Rattle.text.specs.Text.{◌>>=◌, at_blank, cut, hexadecimal, id_at}
use Rattle.lspci.specs.declared.lines.Location.{Location}
use Rattle.lspci.specs.declared.lines.Row.{Row}
use Rattle.lspci.specs.declared.lines.DumpLine.{DumpLine}
use Rattle.lspci.specs.declared.lines.DumpLine.TheVariants as says

abbrev pub with_segment : List ℕ → Option Location
with_segment word = do
  parts ← cut 58 word
  segment ← hexadecimal 4 8 parts.0
  id ← id_at parts.1
  Some (record { segment = segment; id = id })

abbrev pub or_with_segment : List ℕ → Option ℕ → Option Location
or_with_segment word None = with_segment word
or_with_segment word (Some id) = Some (record { segment = 0; id = id })

-- `00:1c.0`, or `0000:00:1c.0`
abbrev pub location_of : List ℕ → Option Location
location_of word = or_with_segment word (id_at word)

-- a location as `0000:00:1c.0`: the segment in four hexadecimal digits at least
abbrev pub location_text : Location → List ℕ
location_text location = padded_integral (format_spec 32 0 4 4 (2 ^ 64 - 1)) false [] (digits 16 false location.segment) ++ (codes ":" ++ id_text location.id)

-- a location, a blank, and the device's name
abbrev pub device_line : List ℕ → Option DumpLine
device_line line = do
  parts ← at_blank line
  location ← location_of parts.0
  Some (says.Device location)

-- the byte that two digits behind a blank spell
abbrev pub byte_at : List ℕ → ℕ → Option ℕ
byte_at text place = if slice_index text place == 32 then hexadecimal 2 2 (slice_range text (place + 1) (place + 3)) else None

-- so many bytes, from this one on
unfoldable pub bytes_from : List ℕ → ℕ → ℕ → Option (List ℕ)
bytes_from text number zero = Some []
bytes_from text number (suc left) = option_and_then (λ byte. option_map (λ more. byte ∷ more) (bytes_from text (number + 1) left)) (byte_at text (3 * number))

-- sixteen bytes, each behind a blank
abbrev pub row_bytes : List ℕ → Option (List ℕ)
row_bytes text = if length text == 48 then bytes_from text 0 16 else None

abbrev pub row_of : List ℕ → List ℕ → Option Row
row_of digits text = do
  offset ← hexadecimal 2 3 digits
  bytes ← row_bytes text
  Some (record { offset = offset; bytes = bytes })

-- `00: 86 80 ..`
abbrev pub row_line : List ℕ → Option DumpLine
row_line line = do
  parts ← cut 58 line
  row ← row_of parts.0 parts.1
  Some (says.Row row)

abbrev pub or_row : List ℕ → Option DumpLine → Option DumpLine
or_row line None = row_line line
or_row line (Some device) = Some device

-- the line without blanks, tabs and carriage returns at its end
unfoldable pub trimmed : List ℕ → List ℕ
trimmed line = take (length line - suffix_len is_ascii_whitespace line) line

abbrev pub begins_blank : List ℕ → Bool
begins_blank line = not (length line == 0) && ((slice_index line 0 == 32) || (slice_index line 0 == 9))

-- a line that is no detail has something at its end that is passed over
abbrev pub is_ragged : List ℕ → Bool
is_ragged line = not (begins_blank line) && nat_lt (length (trimmed line)) (length line)

-- a line without bytes is blank
abbrev pub said_by : List ℕ → Option DumpLine
said_by line = if length line == 0 then Some says.Blank else or_row line (device_line line)

-- one that begins with a blank or a tab is a detail; of any other what is blank at its end doesn't count
unfoldable pub dump_line_of : List ℕ → Option DumpLine
dump_line_of line = if begins_blank line then Some says.Detail else said_by (trimmed line)
