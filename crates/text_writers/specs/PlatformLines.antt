-- The lines of a platform, in an order in which each names only what earlier ones declare.
use Rattle.std.specs.Prelude.{ℕ, ◌==◌, List, [], ◌∷◌, ◌++◌, map, Option, Some, None, option_map, if◌then◌else◌}
use Rattle.std.specs.List.{flat_map}
use Rattle.fab_types.specs.Controls.{bits_of}
use Rattle.platform.specs.declared.parts.Switch.{Switch}
use Rattle.platform.specs.declared.parts.DownstreamPort.{DownstreamPort}
use Rattle.platform.specs.declared.parts.EndpointFunction.{EndpointFunction}
use Rattle.platform.specs.declared.parts.MapTarget.{MapTarget}
use Rattle.platform.specs.declared.parts.MapTarget.TheVariants as mapped
use Rattle.platform.specs.declared.parts.Mapping.{Mapping}
use Rattle.platform.specs.declared.parts.BudgetLine.{BudgetLine}
use Rattle.platform.specs.declared.parts.CreditLine.{CreditLine}
use Rattle.platform.specs.Platform.{Platform}
use Rattle.layout_line.specs.declared.lines.TargetText.{TargetText}
use Rattle.layout_line.specs.declared.lines.TargetText.TheVariants as target
use Rattle.layout_line.specs.declared.lines.LayoutLine.{LayoutLine}
use Rattle.layout_line.specs.declared.lines.LayoutLine.TheVariants as line

-- ---- each part

-- no line says that there are no frames
abbrev pub frames_lines : ℕ → List LayoutLine
frames_lines count = if count == 0 then [] else line.Frames count ∷ []

abbrev pub switch_or_root : ℕ → Option ℕ → LayoutLine
switch_or_root id None = line.Root id
switch_or_root id (Some above) = line.Switch (record { id = id; above = above })

abbrev pub switch_says : Switch → LayoutLine
switch_says switch = switch_or_root switch.id switch.above

abbrev pub port_says : DownstreamPort → LayoutLine
port_says port = line.Port (record { id = port.id; secondary = port.secondary; subordinate = port.subordinate; base = port.base; limit = port.limit; controls = bits_of port.controls; owner = port.owner })

abbrev pub function_says : EndpointFunction → LayoutLine
function_says function = line.Function (record { id = function.id; bar = function.bar })

abbrev pub target_says : MapTarget → TargetText
target_says (mapped.Frame frame) = target.Frame frame
target_says (mapped.Peer peer) = target.Peer peer

abbrev pub map_says : Mapping → LayoutLine
map_says mapping = line.Map (record { requester = mapping.requester; page = mapping.page; target = target_says mapping.target; rights = record { read = mapping.rights.read; write = mapping.rights.write } })

abbrev pub budget_says : BudgetLine → LayoutLine
budget_says budget = line.Budget (record { domain = budget.domain; begins = budget.begins })

abbrev pub credit_says : CreditLine → LayoutLine
credit_says credit = line.Credit (record {
  id = credit.id;
  posted_headers = credit.limits.posted_headers;
  posted_data = credit.limits.posted_data;
  non_posted_headers = credit.limits.non_posted_headers;
  non_posted_data = credit.limits.non_posted_data;
  completion_headers = credit.limits.completion_headers;
  completion_data = credit.limits.completion_data;
})

-- a vector has a line of its own
abbrev pub egress_lines : ℕ → Option ℕ → List LayoutLine
egress_lines id None = []
egress_lines id (Some vector) = line.Egress (record { port = id; vector = vector }) ∷ []

abbrev pub vector_lines : DownstreamPort → List LayoutLine
vector_lines port = egress_lines port.id port.egress_vector

-- ---- the tree of switches and ports

-- the ports up to the one of this ID, and those behind it, if it is among them
abbrev pub split_behind : ℕ → List DownstreamPort → Option (List DownstreamPort × List DownstreamPort)
split_behind id [] = None
split_behind id (port ∷ ports) =
    if port.id == id then Some (port ∷ [], ports)
    else option_map (λ (parts : List DownstreamPort × List DownstreamPort). (port ∷ parts.0, parts.1)) (split_behind id ports)

abbrev pub parts_or : List DownstreamPort → Option (List DownstreamPort × List DownstreamPort) → List DownstreamPort × List DownstreamPort
parts_or ports None = ([], ports)
parts_or ports (Some parts) = parts

-- of the ports still to be written those that come before a switch, and the others: those up to the port above it
abbrev pub ports_before : Option ℕ → List DownstreamPort → List DownstreamPort × List DownstreamPort
ports_before None ports = ([], ports)
ports_before (Some above) ports = parts_or ports (split_behind above ports)

-- each switch as early as it may come
abbrev pub tree_lines : List Switch → List DownstreamPort → List LayoutLine
tree_lines [] ports = map port_says ports
tree_lines (switch ∷ switches) ports =
    map port_says (ports_before switch.above ports).0 ++ switch_says switch ∷ tree_lines switches (ports_before switch.above ports).1

-- ---- the whole

abbrev pub part_lines : Platform → List LayoutLine
part_lines platform = map map_says platform.maps ++ (map budget_says platform.budgets ++ (map credit_says platform.credits ++ flat_map vector_lines platform.ports))

abbrev pub lines_of : Platform → List LayoutLine
lines_of platform = frames_lines platform.frames ++ (tree_lines platform.switches platform.ports ++ (map function_says platform.functions ++ part_lines platform))
