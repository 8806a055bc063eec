-- Where a machine has the devices of a layout, as comments of the layout's text say.
use Rattle.std.specs.Prelude.{ℕ, ◌==◌, ◌++◌, Bool, List, [], ◌∷◌, codes, count_by, Option, Some, None, option_map, if◌then◌else◌}
use Rattle.std.specs.List.{find, starts_with}
use Rattle.std.specs.Str.{bytes_eq}
use Rattle.fab_types.specs.Texts.{id_text}
use Rattle.text.specs.Text.{◌>>=◌, at_blank, pieces}
use Rattle.layout_line.specs.LayoutLines.{layout_line_of}
use Rattle.layout_line.specs.declared.lines.LayoutLine.{LayoutLine}
use Rattle.layout_line.specs.declared.lines.LayoutLine.TheVariants.{Switch, Port, Function}
use Rattle.lspci.specs.Lines.{location_of, location_text}
use Rattle.lspci.specs.declared.lines.Location.{Location}
use Rattle.findings_text.specs.declared.remarks.Named.{Named}

-- what comments of a text say: where the machine has each device, and how many of its endpoints the layout hasn't
pub record Told : Type 0 where
  pub names : List Named
  pub left_out : ℕ

abbrev pub told : List Named → ℕ → Told
told names left_out = record { names = names; left_out = left_out }

-- ---- the names

-- the ID of a port, of a switch below a port, or of a function
abbrev pub id_in : LayoutLine → Option ℕ
id_in (Switch switch) = Some switch.id
id_in (Port port) = Some port.id
id_in (Function function) = Some function.id
id_in other = None

-- the ID of the device that a line states
unfoldable pub stated_id : List ℕ → Option ℕ
stated_id line = layout_line_of line >>= id_in

-- what stands before the first blank, or all where there is none
abbrev pub first_of : List ℕ → Option (List ℕ × List ℕ) → List ℕ
first_of text None = text
first_of text (Some parts) = parts.0

abbrev pub first_word : List ℕ → List ℕ
first_word text = first_of text (at_blank text)

-- the location of a line `# LOCATION` or `# LOCATION ..`
unfoldable pub noted_location : List ℕ → Option Location
noted_location line = do
  mark ← at_blank line
  if bytes_eq mark.0 (codes "#") then location_of (first_word mark.1) else None

-- the device that the line before states is there, if a comment says so
abbrev pub name_by : Option ℕ → Option Location → List Named
name_by (Some id) (Some location) = record { id = id; location = location } ∷ []
name_by _ _ = []

-- the names in these lines, of which the line before states this device, if any
abbrev pub names_from : Option ℕ → List (List ℕ) → List Named
names_from before [] = []
names_from before (line ∷ rest) = name_by before (noted_location line) ++ names_from (stated_id line) rest

-- ---- the endpoints that the layout hasn't

abbrev pub is_left_out : List ℕ → Bool
is_left_out line = starts_with (λ a b. a == b) line (codes "# left out: ")

-- what the comments of a text say
unfoldable pub remarks_of : List ℕ → Told
remarks_of text = told (names_from None (pieces text)) (count_by is_left_out (pieces text))

-- ---- an ID with its name

-- where the machine has the device of this ID, by the first name that it has
abbrev pub location_named : List Named → ℕ → Option Location
location_named names id = option_map (λ named. named.location) (find (λ named. named.id == id) names)

abbrev pub name_text : Option Location → List ℕ
name_text None = []
name_text (Some location) = codes " [" ++ location_text location ++ codes "]"

-- `06:00.0`, or `06:00.0 [0000:04:00.0]` where there is a name
unfoldable pub named_id : List Named → ℕ → List ℕ
named_id names id = id_text id ++ name_text (location_named names id)
