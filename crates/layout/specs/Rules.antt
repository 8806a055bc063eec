-- What is wrong with a line, by it and the lines before it. The least number that applies is named.
use Rattle.std.specs.Prelude.{ℕ, ◌+◌, ◌%◌, ◌==◌, Bool, true, false, ◌&&◌, ◌||◌, not, nat_le, nat_lt, List, [], ◌∷◌, length, count_by, Option, Some, None, is_some, if◌then◌else◌}
use Rattle.std.specs.List.{list_any}
use Rattle.fab_types.specs.Id.{id_of, bus_of, function_of}
use Rattle.fab_types.specs.declared.faults.layout.LayoutCause.{LayoutCause}
use Rattle.fab_types.specs.declared.faults.layout.LayoutCause.TheVariants as cause
use Rattle.platform.specs.declared.parts.Switch.{Switch}
use Rattle.platform.specs.declared.parts.DownstreamPort.{DownstreamPort}
use Rattle.platform.specs.declared.parts.EndpointFunction.{EndpointFunction}
use Rattle.platform.specs.declared.parts.MapTarget.{MapTarget}
use Rattle.platform.specs.declared.parts.MapTarget.TheVariants as mapped
use Rattle.platform.specs.declared.parts.Mapping.{Mapping}
use Rattle.layout_line.specs.declared.lines.SwitchText.{SwitchText}
use Rattle.layout_line.specs.declared.lines.PortText.{PortText}
use Rattle.layout_line.specs.declared.lines.MapText.{MapText}
use Rattle.layout_line.specs.declared.lines.TargetText.{TargetText}
use Rattle.layout_line.specs.declared.lines.TargetText.TheVariants as target
use Rattle.layout_line.specs.declared.lines.BudgetText.{BudgetText}
use Rattle.layout_line.specs.declared.lines.CreditText.{CreditText}
use Rattle.layout_line.specs.declared.lines.EgressText.{EgressText}
use Rattle.layout_line.specs.declared.lines.LayoutLine.{LayoutLine}
use Rattle.layout_line.specs.declared.lines.LayoutLine.TheVariants.{Frames, Root, Port, Function, Map, Budget, Credit, Egress}
use Rattle.platform.specs.Owners.{is_function, owns_port}
use Rattle.platform.specs.Tree.{port_at, port_leading_to, id_below, switch_on, is_on_bus, port_above, is_third_level, is_taken, domain_of}
use Rattle.platform.specs.Platform.{Platform}
use Rattle.platform.specs.Egress.{lets_through}
use Rattle.fab_types.specs.Controls.{controls_egress}
use Rattle.platform.specs.declared.parts.LayoutVersion.{LayoutVersion}
use Rattle.platform.specs.declared.parts.LayoutVersion.TheVariants.{One, Two}
use Rattle.layout.specs.Additions.{function_line, with_vector}

-- the first cause whose condition holds
abbrev pub first_of : List (Bool × LayoutCause) → Option LayoutCause
first_of [] = None
first_of (rule ∷ rules) = if rule.0 then Some rule.1 else first_of rules

abbrev pub is_within : ℕ → ℕ → ℕ → Bool
is_within least most n = nat_le least n && nat_le n most

-- `frames N`: once, before any `map`, 1 to 1,024
unfoldable pub frames_fault : Platform → ℕ → Option LayoutCause
frames_fault platform count = first_of (
    (not (platform.frames == 0) || not (length platform.maps == 0), cause.Line)
    ∷ (not (is_within 1 1024 count), cause.Limit) ∷ [])

-- `switch ID root`: 01:00.0, before all other switches, each of which needs a port of an earlier one
unfoldable pub root_fault : Platform → ℕ → Option LayoutCause
root_fault platform id = first_of ((not (id == id_of 1 0 0) || not (length platform.switches == 0), cause.Line) ∷ [])

-- `switch ID PORT`: directly below an earlier port below which nothing stands; 8 switches, 3 levels
abbrev pub switch_fault_below : Platform → ℕ → Option DownstreamPort → Option LayoutCause
switch_fault_below platform id None = Some cause.Line
switch_fault_below platform id (Some port) = first_of (
    (not (id == id_below port) || is_taken platform.switches platform.functions id, cause.Line)
    ∷ (nat_le 8 (length platform.switches) || is_third_level platform.switches platform.ports (bus_of port.id), cause.Limit)
    ∷ (nat_lt port.subordinate (port.secondary + 1), cause.BusOutside) ∷ [])

unfoldable pub switch_fault : Platform → SwitchText → Option LayoutCause
switch_fault platform switch = switch_fault_below platform switch.id (port_at platform.ports switch.above)

-- a port's ID is of function 0 and new; its buses and its window are in order, the window in whole MB
unfoldable pub has_bad_fields : List DownstreamPort → PortText → Bool
has_bad_fields ports port =
    not (function_of port.id == 0) || is_some (port_at ports port.id) || nat_lt port.subordinate port.secondary
    || not (port.base % 0x100000 == 0) || not (port.limit % 0x100000 == 0xfffff) || nat_le port.limit port.base

-- 31 domains, 8 ports of a switch
unfoldable pub is_past_port_limits : List DownstreamPort → PortText → Bool
is_past_port_limits ports port = not (is_within 1 31 port.owner) || nat_le 8 (count_by (is_on_bus (bus_of port.id)) ports)

-- the buses of another port of the switch meet those of this one
unfoldable pub buses_meet : List DownstreamPort → PortText → Bool
buses_meet ports port =
    list_any (λ other. is_on_bus (bus_of port.id) other && nat_le other.secondary port.subordinate && nat_le port.secondary other.subordinate) ports

unfoldable pub windows_meet : List DownstreamPort → PortText → Bool
windows_meet ports port =
    list_any (λ other. is_on_bus (bus_of port.id) other && nat_le other.base port.limit && nat_le port.base other.limit) ports

-- a port on this bus has been given a vector
unfoldable pub has_vectors : List DownstreamPort → ℕ → Bool
has_vectors ports bus = list_any (λ other. is_on_bus bus other && is_some other.egress_vector) ports

-- the greatest value of a port's controls
abbrev pub last_controls : LayoutVersion → ℕ
last_controls One = 31
last_controls Two = 63

abbrev pub last_bus : Option DownstreamPort → ℕ
last_bus None = 255
last_bus (Some above) = above.subordinate

-- the buses below a port come after its own, and are among those of the port above its switch
abbrev pub buses_are_outside : Option DownstreamPort → PortText → Bool
buses_are_outside above port = not (nat_lt (bus_of port.id) port.secondary && nat_le port.subordinate (last_bus above))

abbrev pub window_is_outside : Option DownstreamPort → PortText → Bool
window_is_outside None port = false
window_is_outside (Some above) port = not (nat_le above.base port.base && nat_le port.limit above.limit)

abbrev pub owner_differs : Option DownstreamPort → PortText → Bool
owner_differs None port = false
owner_differs (Some above) port = not (port.owner == above.owner)

-- `port ID SEC SUB BASE LIMIT ACS OWNER`: on the internal bus of an earlier switch, none of whose ports has a vector yet
unfoldable pub port_fault_below : LayoutVersion → List DownstreamPort → Option DownstreamPort → PortText → Option LayoutCause
port_fault_below version ports above port = first_of (
    (has_bad_fields ports port || has_vectors ports (bus_of port.id), cause.Line)
    ∷ (is_past_port_limits ports port, cause.Limit)
    ∷ (buses_meet ports port, cause.BusOverlap)
    ∷ (buses_are_outside above port, cause.BusOutside)
    ∷ (windows_meet ports port, cause.WindowOverlap)
    ∷ (window_is_outside above port, cause.WindowOutside)
    ∷ (owner_differs above port, cause.OwnerMixed)
    ∷ (nat_lt (last_controls version) port.controls, cause.AcsUnknown) ∷ [])

abbrev pub port_fault_on : Platform → PortText → Option Switch → Option LayoutCause
port_fault_on platform port None = Some cause.Line
port_fault_on platform port (Some switch) = port_fault_below platform.version platform.ports (port_above platform.ports switch) port

unfoldable pub port_fault : Platform → PortText → Option LayoutCause
port_fault platform port = port_fault_on platform port (switch_on platform.switches (bus_of port.id))

-- `function ID BAR`: directly below an earlier port below which nothing stands; its page is in the
-- port's window
abbrev pub function_fault_below : Platform → EndpointFunction → Option DownstreamPort → Option LayoutCause
function_fault_below platform function None = Some cause.Line
function_fault_below platform function (Some port) = first_of (
    (is_taken platform.switches platform.functions function.id, cause.Line)
    ∷ (not (function.bar % 4096 == 0) || not (nat_le port.base function.bar && nat_le (function.bar + 4095) port.limit), cause.BarOutside) ∷ [])

unfoldable pub function_fault : Platform → EndpointFunction → Option LayoutCause
function_fault platform function = function_fault_below platform function (port_leading_to platform.ports function.id)

abbrev pub is_known_target : List EndpointFunction → TargetText → Bool
is_known_target functions (target.Frame frame) = true
is_known_target functions (target.Peer peer) = is_function functions peer

abbrev pub is_past_frames : ℕ → TargetText → Bool
is_past_frames frames (target.Frame frame) = nat_le frames frame
is_past_frames frames (target.Peer peer) = false

abbrev pub is_mapping_of : ℕ → MapTarget → Bool
is_mapping_of frame (mapped.Frame k) = k == frame
is_mapping_of frame (mapped.Peer peer) = false

-- a function of another domain mapped the frame
unfoldable pub is_foreign_frame : List DownstreamPort → List Mapping → ℕ → ℕ → Bool
is_foreign_frame ports maps domain frame =
    list_any (λ line. is_mapping_of frame line.target && not (domain_of ports line.requester == domain)) maps

-- a frame or a function of another domain
abbrev pub is_foreign : List DownstreamPort → List Mapping → ℕ → TargetText → Bool
is_foreign ports maps domain (target.Frame frame) = is_foreign_frame ports maps domain frame
is_foreign ports maps domain (target.Peer peer) = not (domain_of ports peer == domain)

abbrev pub is_of_requester : ℕ → Mapping → Bool
is_of_requester requester line = line.requester == requester

unfoldable pub is_mapped : List Mapping → ℕ → ℕ → Bool
is_mapped maps requester page = list_any (λ line. is_of_requester requester line && (line.page == page)) maps

unfoldable pub has_full_table : List Mapping → ℕ → Bool
has_full_table maps requester = nat_le 64 (count_by (is_of_requester requester) maps)

-- `map ID PAGE frame K ACCESS`, `map ID PAGE peer ID2 ACCESS`: 64 lines of a requester
unfoldable pub map_fault : Platform → MapText → Option LayoutCause
map_fault platform map = first_of (
    (not (is_function platform.functions map.requester) || not (is_known_target platform.functions map.target), cause.Line)
    ∷ (is_past_frames platform.frames map.target || has_full_table platform.maps map.requester, cause.Limit)
    ∷ (is_foreign platform.ports platform.maps (domain_of platform.ports map.requester) map.target, cause.MapForeign)
    ∷ (is_mapped platform.maps map.requester map.page, cause.MapTwice) ∷ [])

-- `budget D N`: once for a domain that owns a port, 1 to 16,384
unfoldable pub budget_fault : Platform → BudgetText → Option LayoutCause
budget_fault platform budget = first_of (
    (not (owns_port platform.ports budget.domain) || list_any (λ line. line.domain == budget.domain) platform.budgets, cause.Line)
    ∷ (not (is_within 1 16384 budget.begins), cause.Limit) ∷ [])

-- 1 to 127 header credits, 16 to 2,047 data credits
unfoldable pub has_good_credits : CreditText → Bool
has_good_credits credit =
    is_within 1 127 credit.posted_headers && is_within 16 2047 credit.posted_data
    && is_within 1 127 credit.non_posted_headers && is_within 16 2047 credit.non_posted_data
    && is_within 1 127 credit.completion_headers && is_within 16 2047 credit.completion_data

-- `credit ID PH PD NPH NPD CPLH CPLD`: once for a function or an upstream port
unfoldable pub credit_fault : Platform → CreditText → Option LayoutCause
credit_fault platform credit = first_of (
    (not (is_taken platform.switches platform.functions credit.id) || list_any (λ line. line.id == credit.id) platform.credits, cause.Line)
    ∷ (not (has_good_credits credit), cause.CreditRange) ∷ [])

-- requests from below the port may go directly to another port of its switch that is none of the same owner with a function
-- directly below
abbrev pub is_let_abroad : List EndpointFunction → DownstreamPort → DownstreamPort → Bool
is_let_abroad functions port other =
    is_on_bus (bus_of port.id) other && not (other.id == port.id) && lets_through port other.id
    && not ((other.owner == port.owner) && is_function functions (id_below other))

abbrev pub lets_abroad : List EndpointFunction → List DownstreamPort → DownstreamPort → Bool
lets_abroad functions ports port = list_any (is_let_abroad functions port) ports

unfoldable pub has_foreign_bit : Platform → EgressText → Bool
has_foreign_bit platform egress =
    list_any (λ port. (port.id == egress.port) && lets_abroad platform.functions platform.ports (with_vector egress port)) platform.ports

abbrev pub is_first_version : LayoutVersion → Bool
is_first_version One = true
is_first_version Two = false

-- may a line give the port a vector? It has to control egress, and gets one once
abbrev pub takes_vector : Option DownstreamPort → Bool
takes_vector None = false
takes_vector (Some port) = controls_egress port.controls && not (is_some port.egress_vector)

-- `egress PORT VECTOR`, from version 2 on
unfoldable pub egress_fault : Platform → EgressText → Option LayoutCause
egress_fault platform egress = first_of (
    (is_first_version platform.version || not (takes_vector (port_at platform.ports egress.port)), cause.Line)
    ∷ (has_foreign_bit platform egress, cause.EgressForeign) ∷ [])

-- the least number that applies to a line after these
abbrev pub fault_of : Platform → LayoutLine → Option LayoutCause
fault_of platform (Frames count) = frames_fault platform count
fault_of platform (Root id) = root_fault platform id
fault_of platform (LayoutLine.Switch switch) = switch_fault platform switch
fault_of platform (Port port) = port_fault platform port
fault_of platform (Function function) = function_fault platform (function_line function)
fault_of platform (Map map) = map_fault platform map
fault_of platform (Budget budget) = budget_fault platform budget
fault_of platform (Credit credit) = credit_fault platform credit
fault_of platform (Egress egress) = egress_fault platform egress
