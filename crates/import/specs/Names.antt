-- What a device is called in comments, and what is told there of a port.
use Rattle.std.specs.Prelude.{ℕ, ◌-◌, Bool, ◌&&◌, nat_le, List, length, Option, Some, None, codes, slice_get, if◌then◌else◌}
use Rattle.std.specs.List.{list_all}
use Rattle.lspci.specs.declared.acs.Acs.{Acs}
use Rattle.lspci.specs.declared.acs.Acs.TheVariants.{Absent, Unknown, Standard, Wide}
use Rattle.lspci.specs.declared.lines.Location.{Location}
use Rattle.lspci.specs.Lines.{location_text, trimmed}
use Rattle.text.specs.Text.{pieces}
use Rattle.text_writers.specs.Comments.{is_printable}

-- the line of this number, counted from 1
abbrev pub line_at : List ℕ → ℕ → Option (List ℕ)
line_at text number = slice_get (pieces text) (number - 1)

-- it is short, and printable
abbrev pub is_name : List ℕ → Bool
is_name line = nat_le (length line) 120 && list_all is_printable line

abbrev pub name_or : Option (List ℕ) → List ℕ → List ℕ
name_or None place = place
name_or (Some line) place = if is_name (trimmed line) then trimmed line else place

-- the line of a dump in which a device begins, or only where the device is
abbrev pub name_of : List ℕ → ℕ → Location → List ℕ
name_of text line location = name_or (line_at text line) (location_text location)

-- what has to be told of a port's controls
abbrev pub remark_of : Acs → Option (List ℕ)
remark_of Absent = Some (codes "it has no ACS, so no controls")
remark_of Unknown = Some (codes "its ACS isn't shown, so taken as none: let root run lspci -xxxx")
remark_of (Standard capability control) = None
remark_of (Wide capability control) = Some (codes "its ACS has registers of 32 bits, an erratum")
