-- The tree of a layout as text.
use Rattle.std.specs.Prelude.{ℕ, zero, suc, ◌-◌, ◌*◌, ◌^◌, ◌==◌, ◌++◌, false, List, [], count_by, codes, min, Option, Some, None, unwrap_or, if◌then◌else◌}
use Rattle.std.specs.Fmt.{decimal, digits, format_spec, padded_integral}
use Rattle.std.specs.List.{find}
use Rattle.fab_types.specs.Controls.{control_letter, controls_egress, is_set}
use Rattle.fab_types.specs.Id.{bus_of}
use Rattle.fab_types.specs.Texts.{byte_text}
use Rattle.fab_types.specs.declared.controls.AcsControl.{AcsControl}
use Rattle.fab_types.specs.declared.controls.Control.{Control}
use Rattle.fab_types.specs.declared.controls.Control.TheVariants.{SourceValidation, TranslationBlocking, RequestRedirect, CompletionRedirect, UpstreamForwarding}
use Rattle.platform.specs.Owners.{holds_bus}
use Rattle.platform.specs.Platform.{Platform}
use Rattle.platform.specs.Tree.{domain_of, internal_bus}
use Rattle.platform.specs.declared.parts.DownstreamPort.{DownstreamPort}
use Rattle.platform.specs.declared.parts.EndpointFunction.{EndpointFunction}
use Rattle.platform.specs.declared.parts.LayoutVersion.{LayoutVersion}
use Rattle.platform.specs.declared.parts.LayoutVersion.TheVariants.{One, Two}
use Rattle.platform.specs.declared.parts.Switch.{Switch}
use Rattle.findings_text.specs.declared.remarks.Named.{Named}
use Rattle.findings_text.specs.declared.tree.Tree.{Tree}
use Rattle.findings_text.specs.Remarks.{named_id}

-- eight hexadecimal digits
abbrev pub word_text : ℕ → List ℕ
word_text n = padded_integral (format_spec 32 0 4 8 (2 ^ 64 - 1)) false [] (digits 16 false n)

-- two blanks for each level
abbrev pub indent : ℕ → List ℕ
indent zero = []
indent (suc depth) = indent depth ++ codes "  "

abbrev pub letter_or_dot : AcsControl → Control → List ℕ
letter_or_dot controls control = if is_set controls control then control_letter control else codes "."

-- `VBRCU`, with a dot for each that is clear
abbrev pub controls_text : AcsControl → List ℕ
controls_text controls =
    (letter_or_dot controls SourceValidation ++ letter_or_dot controls TranslationBlocking ++ letter_or_dot controls RequestRedirect)
    ++ (letter_or_dot controls CompletionRedirect ++ letter_or_dot controls UpstreamForwarding)

-- the Egress Control Vector, all ones where none was given
abbrev pub vector_of : DownstreamPort → ℕ
vector_of port = unwrap_or port.egress_vector 4294967295

-- version 1 has no Egress Control
abbrev pub clear_egress_text : LayoutVersion → List ℕ
clear_egress_text One = codes "\n"
clear_egress_text Two = codes ".\n"

abbrev pub egress_text : LayoutVersion → DownstreamPort → List ℕ
egress_text version port =
    if controls_egress port.controls then codes "E vector " ++ word_text (vector_of port) ++ codes "\n" else clear_egress_text version

-- whose port it is, and the buses below it
abbrev pub port_words : DownstreamPort → List ℕ
port_words port = codes " domain " ++ decimal port.owner ++ codes " buses " ++ byte_text port.secondary ++ codes "-" ++ byte_text port.subordinate

abbrev pub port_head : List Named → DownstreamPort → List ℕ
port_head names port = codes "port " ++ named_id names port.id ++ port_words port

abbrev pub window_text : DownstreamPort → List ℕ
window_text port = codes " window " ++ word_text port.base ++ codes "-" ++ word_text port.limit ++ codes " controls "

abbrev pub port_line : List Named → LayoutVersion → ℕ → DownstreamPort → List ℕ
port_line names version depth port = indent (depth - 1) ++ port_head names port ++ window_text port ++ controls_text port.controls ++ egress_text version port

abbrev pub port_lines : List Named → LayoutVersion → ℕ → Option DownstreamPort → List ℕ
port_lines names version depth None = []
port_lines names version depth (Some port) = port_line names version depth port

-- the bus of its ports
abbrev pub switch_words : Switch → List ℕ
switch_words switch = codes " bus " ++ byte_text (internal_bus switch) ++ codes "\n"

abbrev pub switch_line : List Named → ℕ → Switch → List ℕ
switch_line names depth switch = indent depth ++ (codes "switch " ++ named_id names switch.id) ++ switch_words switch

abbrev pub switch_lines : List Named → ℕ → Option Switch → List ℕ
switch_lines names depth None = []
switch_lines names depth (Some switch) = switch_line names depth switch

-- its domain and its page
abbrev pub function_words : ℕ → ℕ → List ℕ
function_words owner page = codes " domain " ++ decimal owner ++ codes " page " ++ word_text page ++ codes "\n"

abbrev pub function_line : List Named → ℕ → List DownstreamPort → EndpointFunction → List ℕ
function_line names depth ports line = indent depth ++ (codes "function " ++ named_id names line.id) ++ function_words (domain_of ports line.id) line.bar

abbrev pub function_lines : List Named → ℕ → List DownstreamPort → Option EndpointFunction → List ℕ
function_lines names depth ports None = []
function_lines names depth ports (Some line) = function_line names depth ports line

-- how many ports stand above what is on a bus
abbrev pub levels_above : List DownstreamPort → ℕ → ℕ
levels_above ports bus = min (count_by (λ port. holds_bus port bus) ports) 3

abbrev pub function_on : List EndpointFunction → ℕ → Option EndpointFunction
function_on functions bus = find (λ line. bus_of line.id == bus) functions

-- what a tree is made of, and the names of its devices
pub record Parts : Type 0 where
  pub names : List Named
  pub version : LayoutVersion
  pub ports : List DownstreamPort
  pub switches : List Switch
  pub functions : List EndpointFunction

abbrev pub parts_of : Tree → Parts
parts_of tree = record { names = tree.remarks.now.names; version = tree.version; ports = tree.ports.now; switches = tree.switches.now; functions = tree.functions.now }

abbrev pub switch_on : List Switch → ℕ → Option Switch
switch_on switches bus = find (λ switch. bus_of switch.id == bus) switches

abbrev pub port_to : List DownstreamPort → ℕ → Option DownstreamPort
port_to ports bus = find (λ port. port.secondary == bus) ports

-- the lines of the port that leads to a bus, and of the switch or function on it
abbrev pub lines_at : Parts → ℕ → Option DownstreamPort → Option Switch → Option EndpointFunction → List ℕ
lines_at p depth port switch line = port_lines p.names p.version depth port ++ switch_lines p.names depth switch ++ function_lines p.names depth p.ports line

abbrev pub lines_on : Parts → ℕ → List ℕ
lines_on p bus = lines_at p (levels_above p.ports bus * 2) (port_to p.ports bus) (switch_on p.switches bus) (function_on p.functions bus)

-- the lines of the first so many buses
unfoldable pub lines_below : Parts → ℕ → List ℕ
lines_below p zero = []
lines_below p (suc bus) = lines_below p bus ++ lines_on p bus

-- those of all buses
abbrev pub tree_text : Platform → List Named → List ℕ
tree_text platform names = lines_below (record { names = names; version = platform.version; ports = platform.ports; switches = platform.switches; functions = platform.functions }) 256
