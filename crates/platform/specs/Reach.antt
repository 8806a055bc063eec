-- Which function or host an ID leads to.
use Rattle.std.specs.Prelude.{ℕ, ◌==◌, ◌||◌, not, Bool, false, List, Option, Some, None, option_map, slice_index_or, if◌then◌else◌}
use Rattle.std.specs.List.{find}
use Rattle.fab_types.specs.Id.{bus_of, host_of}
use Rattle.fab_types.specs.declared.origin.Origin.{Origin}
use Rattle.fab_types.specs.declared.origin.Origin.TheVariants.{Function, Host}
use Rattle.platform.specs.declared.parts.DownstreamPort.{DownstreamPort}
use Rattle.platform.specs.declared.parts.EndpointFunction.{EndpointFunction}
use Rattle.platform.specs.Owners.{first_port, holds_bus}
use Rattle.platform.specs.Share.{Share}

abbrev pub holds_bus_if_any : Option DownstreamPort → ℕ → Bool
holds_bus_if_any None bus = false
holds_bus_if_any (Some port) bus = holds_bus port bus

-- the line of the function whose first port has the bus below it
abbrev pub line_at : List DownstreamPort → List EndpointFunction → ℕ → Option EndpointFunction
line_at ports functions bus = find (λ line. holds_bus_if_any (first_port ports line.id) bus) functions

-- that function
abbrev pub function_at : List DownstreamPort → List EndpointFunction → ℕ → Option ℕ
function_at ports functions bus = option_map (λ line. line.id) (line_at ports functions bus)

-- unless the port hasn't the bus below it, the bus directly below it is noted
abbrev pub is_noted : List Bool → ℕ → DownstreamPort → Bool
is_noted buses bus port = not (holds_bus port bus) || slice_index_or buses port.secondary false

-- an ID leads to the domain's host, if it is that host's, or by its bus to a function
abbrev pub reach : Share → ℕ → Option Origin
reach share id = if id == host_of share.domain then Some (Host share.domain) else option_map Function (function_at share.ports share.functions (bus_of id))
