-- How each line of a layout is written: a first word, and its fields in their order.
use Rattle.std.specs.Prelude.{ℕ, Bool, true, false, List, [], ◌∷◌, ◌++◌, codes}
use Rattle.std.specs.Fmt.{decimal, digits}
use Rattle.fab_types.specs.Texts.{id_text}
use Rattle.layout_line.specs.declared.lines.TargetText.{TargetText}
use Rattle.layout_line.specs.declared.lines.TargetText.TheVariants as target
use Rattle.layout_line.specs.declared.lines.LayoutLine.{LayoutLine}
use Rattle.layout_line.specs.declared.lines.LayoutLine.TheVariants.{Frames, Root, Switch, Port, Function, Map, Budget, Credit, Egress}
use Rattle.text_writers.specs.Words.{hex_text, more_words}

-- what kind of thing a page is mapped to, and which
abbrev pub target_kind : TargetText → List ℕ
target_kind (target.Frame frame) = codes "frame"
target_kind (target.Peer peer) = codes "peer"

abbrev pub target_name : TargetText → List ℕ
target_name (target.Frame frame) = decimal frame
target_name (target.Peer peer) = id_text peer

-- `r`, `w` or `rw`. No line is written without a right
abbrev pub rights_name : Bool → Bool → List ℕ
rights_name true true = codes "rw"
rights_name true false = codes "r"
rights_name false true = codes "w"
rights_name false false = []

abbrev pub first_word : LayoutLine → List ℕ
first_word (Frames count) = codes "frames"
first_word (Root id) = codes "switch"
first_word (Switch switch) = codes "switch"
first_word (Port port) = codes "port"
first_word (Function function) = codes "function"
first_word (Map line) = codes "map"
first_word (Budget budget) = codes "budget"
first_word (Credit credit) = codes "credit"
first_word (Egress egress) = codes "egress"

-- a bus and controls have two hexadecimal digits, an address and a vector eight, a page no leading zeros
abbrev pub fields_of : LayoutLine → List (List ℕ)
fields_of (Frames count) = decimal count ∷ []
fields_of (Root id) = id_text id ∷ codes "root" ∷ []
fields_of (Switch switch) = id_text switch.id ∷ id_text switch.above ∷ []
fields_of (Port port) = id_text port.id ∷ hex_text 2 port.secondary ∷ hex_text 2 port.subordinate ∷ hex_text 8 port.base ∷ hex_text 8 port.limit ∷ hex_text 2 port.controls ∷ decimal port.owner ∷ []
fields_of (Function function) = id_text function.id ∷ hex_text 8 function.bar ∷ []
fields_of (Map line) = id_text line.requester ∷ digits 16 false line.page ∷ target_kind line.target ∷ target_name line.target ∷ rights_name line.rights.read line.rights.write ∷ []
fields_of (Budget budget) = decimal budget.domain ∷ decimal budget.begins ∷ []
fields_of (Credit credit) = id_text credit.id ∷ decimal credit.posted_headers ∷ decimal credit.posted_data ∷ decimal credit.non_posted_headers ∷ decimal credit.non_posted_data ∷ decimal credit.completion_headers ∷ decimal credit.completion_data ∷ []
fields_of (Egress egress) = id_text egress.port ∷ hex_text 8 egress.vector ∷ []

-- a line, without its line feed
abbrev pub layout_line_text : LayoutLine → List ℕ
layout_line_text line = first_word line ++ more_words (fields_of line)
