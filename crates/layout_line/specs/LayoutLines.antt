-- What a line says, before any rule is tested: a first word and its fields, each up to the next
-- blank and the last one up to the line's end.
use Rattle.std.specs.Prelude.{ℕ, true, false, List, codes, Option, Some, None, option_map, if◌then◌else◌}
use Rattle.std.specs.Str.{bytes_eq}
use Rattle.text.specs.Text.{◌>>=◌, at_blank, decimal, hexadecimal, id_at}
use Rattle.layout_line.specs.declared.lines.RightsText.{RightsText}
use Rattle.layout_line.specs.declared.lines.TargetText.{TargetText}
use Rattle.layout_line.specs.declared.lines.TargetText.TheVariants as target
use Rattle.layout_line.specs.declared.lines.LayoutLine.{LayoutLine}
use Rattle.layout_line.specs.declared.lines.LayoutLine.TheVariants.{Frames, Root, Switch, Port, Function, Map, Budget, Credit, Egress}

-- `frames N`
abbrev pub frames_text : List ℕ → Option LayoutLine
frames_text rest = option_map Frames (decimal rest)

-- `switch ID root`, or `switch ID PORT`
abbrev pub switch_below : ℕ → List ℕ → Option LayoutLine
switch_below id above =
    if bytes_eq above (codes "root") then Some (Root id)
    else option_map (λ port. Switch (record { id = id; above = port })) (id_at above)

abbrev pub switch_text : List ℕ → Option LayoutLine
switch_text rest = do
  first ← at_blank rest
  id ← id_at first.0
  switch_below id first.1

-- `port ID SEC SUB BASE LIMIT ACS OWNER`
abbrev pub port_fields : List ℕ → List ℕ → List ℕ → List ℕ → List ℕ → List ℕ → List ℕ → Option LayoutLine
port_fields id_field secondary_field subordinate_field base_field limit_field controls_field owner_field = do
  id ← id_at id_field
  secondary ← hexadecimal 2 2 secondary_field
  subordinate ← hexadecimal 2 2 subordinate_field
  base ← hexadecimal 8 8 base_field
  limit ← hexadecimal 8 8 limit_field
  controls ← hexadecimal 2 2 controls_field
  owner ← decimal owner_field
  Some (Port (record { id = id; secondary = secondary; subordinate = subordinate; base = base; limit = limit; controls = controls; owner = owner }))

abbrev pub port_text : List ℕ → Option LayoutLine
port_text rest = do
  id ← at_blank rest
  secondary ← at_blank id.1
  subordinate ← at_blank secondary.1
  base ← at_blank subordinate.1
  limit ← at_blank base.1
  controls ← at_blank limit.1
  port_fields id.0 secondary.0 subordinate.0 base.0 limit.0 controls.0 controls.1

-- `function ID BAR`
abbrev pub function_text : List ℕ → Option LayoutLine
function_text rest = do
  first ← at_blank rest
  id ← id_at first.0
  bar ← hexadecimal 8 8 first.1
  Some (Function (record { id = id; bar = bar }))

-- `r`, `w` or `rw`
abbrev pub rights_text : List ℕ → Option RightsText
rights_text field =
    if bytes_eq field (codes "r") then Some (record { read = true; write = false })
    else (if bytes_eq field (codes "w") then Some (record { read = false; write = true })
    else (if bytes_eq field (codes "rw") then Some (record { read = true; write = true }) else None))

-- `frame K`, or `peer ID`
abbrev pub target_text : List ℕ → List ℕ → Option TargetText
target_text word field =
    if bytes_eq word (codes "frame") then option_map target.Frame (decimal field)
    else (if bytes_eq word (codes "peer") then option_map target.Peer (id_at field) else None)

-- `map ID PAGE frame K ACCESS`, or `map ID PAGE peer ID2 ACCESS`
abbrev pub map_fields : List ℕ → List ℕ → List ℕ → List ℕ → List ℕ → Option LayoutLine
map_fields id_field page_field word target_field rights_field = do
  id ← id_at id_field
  page ← hexadecimal 1 13 page_field
  target ← target_text word target_field
  rights ← rights_text rights_field
  Some (Map (record { requester = id; page = page; target = target; rights = rights }))

abbrev pub map_text : List ℕ → Option LayoutLine
map_text rest = do
  id ← at_blank rest
  page ← at_blank id.1
  word ← at_blank page.1
  target ← at_blank word.1
  map_fields id.0 page.0 word.0 target.0 target.1

-- `budget D N`
abbrev pub budget_text : List ℕ → Option LayoutLine
budget_text rest = do
  first ← at_blank rest
  domain ← decimal first.0
  begins ← decimal first.1
  Some (Budget (record { domain = domain; begins = begins }))

-- `credit ID PH PD NPH NPD CPLH CPLD`
abbrev pub credit_fields : List ℕ → List ℕ → List ℕ → List ℕ → List ℕ → List ℕ → List ℕ → Option LayoutLine
credit_fields id_field ph pd nph npd cplh cpld = do
  id ← id_at id_field
  posted_headers ← decimal ph
  posted_data ← decimal pd
  non_posted_headers ← decimal nph
  non_posted_data ← decimal npd
  completion_headers ← decimal cplh
  completion_data ← decimal cpld
  Some (Credit (record { id = id; posted_headers = posted_headers; posted_data = posted_data; non_posted_headers = non_posted_headers; non_posted_data = non_posted_data; completion_headers = completion_headers; completion_data = completion_data }))

abbrev pub credit_text : List ℕ → Option LayoutLine
credit_text rest = do
  id ← at_blank rest
  posted_headers ← at_blank id.1
  posted_data ← at_blank posted_headers.1
  non_posted_headers ← at_blank posted_data.1
  non_posted_data ← at_blank non_posted_headers.1
  completion_headers ← at_blank non_posted_data.1
  credit_fields id.0 posted_headers.0 posted_data.0 non_posted_headers.0 non_posted_data.0 completion_headers.0 completion_headers.1

-- `egress PORT VECTOR`
abbrev pub egress_text : List ℕ → Option LayoutLine
egress_text rest = do
  first ← at_blank rest
  port ← id_at first.0
  vector ← hexadecimal 8 8 first.1
  Some (Egress (record { port = port; vector = vector }))

abbrev pub layout_line_of_word : List ℕ → List ℕ → Option LayoutLine
layout_line_of_word word rest =
    if bytes_eq word (codes "frames") then frames_text rest
    else (if bytes_eq word (codes "switch") then switch_text rest
    else (if bytes_eq word (codes "port") then port_text rest
    else (if bytes_eq word (codes "function") then function_text rest
    else (if bytes_eq word (codes "map") then map_text rest
    else (if bytes_eq word (codes "budget") then budget_text rest
    else (if bytes_eq word (codes "credit") then credit_text rest
    else (if bytes_eq word (codes "egress") then egress_text rest
    else None)))))))

-- what a line says, if it has one of the forms
abbrev pub layout_line_of : List ℕ → Option LayoutLine
layout_line_of line = do
  first ← at_blank line
  layout_line_of_word first.0 first.1
