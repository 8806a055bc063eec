-- A list of who owns which device.
use Rattle.std.specs.Prelude.{ℕ, ◌&&◌, nat_le, List, [], ◌∷◌, Option, Some, None, option_map, Result, if◌then◌else◌}
use Rattle.fab_types.specs.declared.faults.script.ScriptFault.{ScriptFault}
use Rattle.text.specs.Reading as lines
use Rattle.lspci.specs.Lines.{location_of}
use Rattle.text.specs.Text.{◌>>=◌, at_blank, decimal}
use Rattle.import.specs.declared.owners.Owner.{Owner}

-- domains have the numbers 1 to 31
abbrev pub if_domain : ℕ → Option ℕ
if_domain number = if nat_le 1 number && nat_le number 31 then Some number else None

abbrev pub domain_text : List ℕ → Option ℕ
domain_text field = decimal field >>= if_domain

-- `03:00.0 1`, or `0001:03:00.0 1`
abbrev pub owner_text : List ℕ → Option Owner
owner_text line = do
  fields ← at_blank line
  location ← location_of fields.0
  domain ← domain_text fields.1
  Some (record { location = location; domain = domain })

abbrev pub said : ℕ → List ℕ → Option (List Owner)
said number line = option_map (λ owner. owner ∷ []) (owner_text line)

-- what a text of at most 65,536 lines is: the lines that are no comments, or its first faulty line
unfoldable pub reading : List ℕ → Result (List Owner) ScriptFault
reading text = lines.reading 65536 said text
