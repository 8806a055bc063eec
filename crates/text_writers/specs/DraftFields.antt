-- The fields of a line in two parts.
use Rattle.std.specs.Prelude.{ℕ, false, List, [], ◌∷◌}
use Rattle.std.specs.Fmt.{decimal, digits}
use Rattle.fab_types.specs.Texts.{id_text}
use Rattle.layout_line.specs.declared.lines.MapText.{MapText}
use Rattle.layout_line.specs.declared.lines.PortText.{PortText}
use Rattle.text_writers.specs.LayoutLineTexts.{rights_name, target_name}
use Rattle.text_writers.specs.Words.{hex_text}

abbrev pub port_front : PortText → List (List ℕ)
port_front port = id_text port.id ∷ hex_text 2 port.secondary ∷ hex_text 2 port.subordinate ∷ []

-- what stands behind the base
abbrev pub port_back : PortText → List (List ℕ)
port_back port = hex_text 8 port.limit ∷ hex_text 2 port.controls ∷ decimal port.owner ∷ []

abbrev pub map_front : MapText → List (List ℕ)
map_front line = id_text line.requester ∷ digits 16 false line.page ∷ []

-- what stands behind the kind of the target
abbrev pub map_back : MapText → List (List ℕ)
map_back line = target_name line.target ∷ rights_name line.rights.read line.rights.write ∷ []
