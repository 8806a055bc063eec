-- How each command of a script is written: a first word, and its fields in their order.
use Rattle.std.specs.Prelude.{ℕ, ◌==◌, List, [], ◌∷◌, ◌++◌, codes, length, if◌then◌else◌}
use Rattle.std.specs.Fmt.{decimal}
use Rattle.hex.specs.Hex.{encode_lower}
use Rattle.fab_types.specs.Texts.{id_text}
use Rattle.fab_types.specs.declared.host_access.HostAccess.{HostAccess}
use Rattle.fab_types.specs.declared.host_access.Operation.{Operation}
use Rattle.fab_types.specs.declared.host_access.Operation.TheVariants.{Read, Write}
use Rattle.text_writers.specs.Words.{hex_text, more_words}
use Rattle.script.specs.declared.lines.Command.{Command}
use Rattle.script.specs.declared.lines.Command.TheVariants.{Submit, Tick, Mmio, Sweep}

-- bytes in lower-case hexadecimal, or `-` for none
abbrev pub bytes_name : List ℕ → List ℕ
bytes_name bytes = if length bytes == 0 then codes "-" else encode_lower bytes

-- what a host does with registers, and how many DW it reads or which bytes it writes
abbrev pub operation_kind : Operation → List ℕ
operation_kind (Read count) = codes "read"
operation_kind (Write bytes) = codes "write"

abbrev pub operand_name : Operation → List ℕ
operand_name (Read count) = decimal count
operand_name (Write bytes) = bytes_name bytes

-- a place in a page has three hexadecimal digits
abbrev pub access_fields : HostAccess → List (List ℕ)
access_fields access = operation_kind access.operation ∷ id_text access.function ∷ hex_text 3 access.offset ∷ operand_name access.operation ∷ []

abbrev pub first_word : Command → List ℕ
first_word (Submit function bytes) = codes "submit"
first_word (Tick function) = codes "tick"
first_word (Mmio domain access) = codes "mmio"
first_word (Sweep turns) = codes "sweep"

abbrev pub fields_of : Command → List (List ℕ)
fields_of (Submit function bytes) = id_text function ∷ bytes_name bytes ∷ []
fields_of (Tick function) = id_text function ∷ []
fields_of (Mmio domain access) = decimal domain ∷ access_fields access
fields_of (Sweep turns) = decimal turns ∷ []

-- a line, without its line feed
abbrev pub command_text : Command → List ℕ
command_text command = first_word command ++ more_words (fields_of command)
