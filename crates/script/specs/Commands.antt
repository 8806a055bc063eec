-- What a line asks for: a first word and its fields, each up to the next blank and the last one up to
-- the line's end.
use Rattle.std.specs.Prelude.{ℕ, ◌&&◌, nat_le, List, codes, Option, Some, None, option_map, if◌then◌else◌}
use Rattle.std.specs.Str.{bytes_eq}
use Rattle.text.specs.Text.{◌>>=◌, at_blank, decimal, hexadecimal, id_at}
use Rattle.fab_types.specs.declared.host_access.Operation.{Operation}
use Rattle.fab_types.specs.declared.host_access.Operation.TheVariants.{Read, Write}
use Rattle.fab_types.specs.declared.host_access.HostAccess.{HostAccess}
use Rattle.script.specs.declared.lines.Command.{Command}
use Rattle.script.specs.declared.lines.Command.TheVariants.{Submit, Tick, Mmio, Sweep}
use Rattle.script.specs.PacketWord.{packet_bytes}

-- a decimal number in a range
abbrev pub decimal_within : ℕ → ℕ → List ℕ → Option ℕ
decimal_within least most field = do
  number ← decimal field
  if nat_le least number && nat_le number most then Some number else None

-- the number of a domain
abbrev pub domain_text : List ℕ → Option ℕ
domain_text field = decimal_within 1 31 field

-- `ID HEX`: a function and the bytes that it submits
abbrev pub submission_of : List ℕ → Option (ℕ × List ℕ)
submission_of rest = do
  function ← at_blank rest
  id ← id_at function.0
  option_map (λ bytes. (id, bytes)) (packet_bytes function.1)

-- `submit ID HEX`
abbrev pub submit_text : List ℕ → Option Command
submit_text rest = option_map (λ s. Submit s.0 s.1) (submission_of rest)

-- `tick ID`
abbrev pub tick_text : List ℕ → Option Command
tick_text rest = option_map Tick (id_at rest)

-- `read .. DWS`, or `write .. HEX`
abbrev pub operation_text : List ℕ → List ℕ → Option Operation
operation_text word operand =
    if bytes_eq word (codes "read") then option_map Read (decimal operand)
    else (if bytes_eq word (codes "write") then option_map Write (packet_bytes operand) else None)

abbrev pub access_text : List ℕ → List ℕ → List ℕ → List ℕ → Option HostAccess
access_text word id_field offset_field operand = do
  function ← id_at id_field
  offset ← hexadecimal 3 3 offset_field
  option_map (λ operation. record { function = function; offset = offset; operation = operation }) (operation_text word operand)

-- `read ID OFF DWS`, or `write ID OFF HEX`
abbrev pub access_of : List ℕ → Option HostAccess
access_of rest = do
  word ← at_blank rest
  function ← at_blank word.1
  offset ← at_blank function.1
  access_text word.0 function.0 offset.0 offset.1

-- `mmio D read ID OFF DWS`, or `mmio D write ID OFF HEX`
abbrev pub mmio_text : List ℕ → Option Command
mmio_text rest = do
  domain ← at_blank rest
  number ← domain_text domain.0
  option_map (Mmio number) (access_of domain.1)

-- `sweep N`, 1 to 1,000,000 turns
abbrev pub sweep_text : List ℕ → Option Command
sweep_text rest = option_map Sweep (decimal_within 1 1000000 rest)

abbrev pub command_of_word : List ℕ → List ℕ → Option Command
command_of_word word rest =
    if bytes_eq word (codes "submit") then submit_text rest
    else (if bytes_eq word (codes "tick") then tick_text rest
    else (if bytes_eq word (codes "mmio") then mmio_text rest
    else (if bytes_eq word (codes "sweep") then sweep_text rest
    else None)))

-- what a line asks for, if it has one of the forms
unfoldable pub command_of : List ℕ → Option Command
command_of line = do
  first ← at_blank line
  command_of_word first.0 first.1
