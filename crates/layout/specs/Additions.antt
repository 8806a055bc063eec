-- A platform with one line more.
use Rattle.std.specs.Prelude.{ℕ, ◌==◌, [], ◌∷◌, ◌++◌, map, Some, None, if◌then◌else◌}
use Rattle.platform.specs.declared.parts.Switch.{Switch}
use Rattle.platform.specs.declared.parts.DownstreamPort.{DownstreamPort}
use Rattle.platform.specs.declared.parts.EndpointFunction.{EndpointFunction}
use Rattle.platform.specs.declared.parts.Rights.{Rights}
use Rattle.platform.specs.declared.parts.MapTarget.{MapTarget}
use Rattle.platform.specs.declared.parts.MapTarget.TheVariants as mapped
use Rattle.platform.specs.declared.parts.Mapping.{Mapping}
use Rattle.platform.specs.declared.parts.BudgetLine.{BudgetLine}
use Rattle.platform.specs.declared.parts.CreditLimits.{CreditLimits}
use Rattle.platform.specs.declared.parts.CreditLine.{CreditLine}
use Rattle.fab_types.specs.declared.controls.AcsControl.{AcsControl}
use Rattle.layout_line.specs.declared.lines.SwitchText.{SwitchText}
use Rattle.layout_line.specs.declared.lines.PortText.{PortText}
use Rattle.layout_line.specs.declared.lines.FunctionText.{FunctionText}
use Rattle.layout_line.specs.declared.lines.RightsText.{RightsText}
use Rattle.layout_line.specs.declared.lines.MapText.{MapText}
use Rattle.layout_line.specs.declared.lines.TargetText.{TargetText}
use Rattle.layout_line.specs.declared.lines.TargetText.TheVariants as target
use Rattle.layout_line.specs.declared.lines.BudgetText.{BudgetText}
use Rattle.layout_line.specs.declared.lines.CreditText.{CreditText}
use Rattle.layout_line.specs.declared.lines.EgressText.{EgressText}
use Rattle.layout_line.specs.declared.lines.LayoutLine.{LayoutLine}
use Rattle.layout_line.specs.declared.lines.LayoutLine.TheVariants.{Frames, Root, Port, Function, Map, Budget, Credit, Egress}
use Rattle.platform.specs.Platform.{Platform}

abbrev pub root_line : ℕ → Switch
root_line id = record { id = id; above = None }

abbrev pub switch_line : SwitchText → Switch
switch_line switch = record { id = switch.id; above = Some switch.above }

abbrev pub controls_of : ℕ → AcsControl
controls_of bits = record { 0 = bits }

abbrev pub port_line : PortText → DownstreamPort
port_line port = record { id = port.id; secondary = port.secondary; subordinate = port.subordinate; base = port.base; limit = port.limit; controls = controls_of port.controls; owner = port.owner; egress_vector = None }

abbrev pub function_line : FunctionText → EndpointFunction
function_line function = record { id = function.id; bar = function.bar }

abbrev pub target_of_text : TargetText → MapTarget
target_of_text (target.Frame frame) = mapped.Frame frame
target_of_text (target.Peer peer) = mapped.Peer peer

abbrev pub rights_of_text : RightsText → Rights
rights_of_text rights = record { read = rights.read; write = rights.write }

abbrev pub map_line : MapText → Mapping
map_line line = record { requester = line.requester; page = line.page; target = target_of_text line.target; rights = rights_of_text line.rights }

abbrev pub budget_line : BudgetText → BudgetLine
budget_line budget = record { domain = budget.domain; begins = budget.begins }

abbrev pub limits_of_text : CreditText → CreditLimits
limits_of_text credit = record { posted_headers = credit.posted_headers; posted_data = credit.posted_data; non_posted_headers = credit.non_posted_headers; non_posted_data = credit.non_posted_data; completion_headers = credit.completion_headers; completion_data = credit.completion_data }

abbrev pub credit_line : CreditText → CreditLine
credit_line credit = record { id = credit.id; limits = limits_of_text credit }

-- the port, with the vector that the line gives it, if the line is for it
abbrev pub with_vector : EgressText → DownstreamPort → DownstreamPort
with_vector egress port = record port { egress_vector = if port.id == egress.port then Some egress.vector else port.egress_vector }

abbrev pub add : Platform → LayoutLine → Platform
add platform (Frames count) = record platform { frames = count }
add platform (Root id) = record platform { switches = platform.switches ++ root_line id ∷ [] }
add platform (LayoutLine.Switch switch) = record platform { switches = platform.switches ++ switch_line switch ∷ [] }
add platform (Port port) = record platform { ports = platform.ports ++ port_line port ∷ [] }
add platform (Function function) = record platform { functions = platform.functions ++ function_line function ∷ [] }
add platform (Map line) = record platform { maps = platform.maps ++ map_line line ∷ [] }
add platform (Budget budget) = record platform { budgets = platform.budgets ++ budget_line budget ∷ [] }
add platform (Credit credit) = record platform { credits = platform.credits ++ credit_line credit ∷ [] }
add platform (Egress egress) = record platform { ports = map (with_vector egress) platform.ports }
