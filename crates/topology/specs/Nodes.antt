-- The nodes of a tree are the host, its switches and its functions, in this order, the last two as the layout
-- lists them (PCIe 4.0, 1.3). Out of a node lead links, each from an output: the host and a function have output 0
-- alone; of a switch output 0 leads up, and the outputs from 1 on lead out of its downstream ports.
use Rattle.std.specs.Prelude.{ℕ, suc, ◌+◌, ◌==◌, List, ◌∷◌, ◌++◌, length, count_by, map, Option, Some, None}
use Rattle.std.specs.List.{filter, position}
use Rattle.std.specs.Option.{option_map_or}
use Rattle.fab_types.specs.Id.{bus_of}
use Rattle.platform.specs.declared.parts.Switch.{Switch}
use Rattle.platform.specs.declared.parts.DownstreamPort.{DownstreamPort}
use Rattle.platform.specs.declared.parts.EndpointFunction.{EndpointFunction}
use Rattle.platform.specs.Platform.{Platform}
use Rattle.platform.specs.Tree.{is_on_bus}
use Rattle.platform.specs.Tree.{internal_bus}
use Rattle.topology.specs.declared.nodes.LinkEnd.{LinkEnd}

abbrev pub root_end : LinkEnd
root_end = record { node = 0; output = 0 }

-- the downstream ports of a switch
abbrev pub ports_on : List DownstreamPort → ℕ → List DownstreamPort
ports_on ports bus = filter (is_on_bus bus) ports

-- how many outputs lead out of a switch
abbrev pub outputs_of_switch : List DownstreamPort → Switch → ℕ
outputs_of_switch ports switch = 1 + count_by (is_on_bus (internal_bus switch)) ports

abbrev pub one_output : EndpointFunction → ℕ
one_output function = 1

-- how many outputs lead out of each node
abbrev pub outputs_of : Platform → List ℕ
outputs_of platform = 1 ∷ (map (outputs_of_switch platform.ports) platform.switches ++ map one_output platform.functions)

-- the output out of a downstream port
abbrev pub output_of : List DownstreamPort → DownstreamPort → ℕ
output_of ports port = option_map_or suc (position (λ other. other.id == port.id) (ports_on ports (bus_of port.id))) 0

abbrev pub end_of_port : List DownstreamPort → DownstreamPort → Option ℕ → LinkEnd
end_of_port ports port None = root_end
end_of_port ports port (Some place) = record { node = 1 + place; output = output_of ports port }

-- where packets are sent down from a downstream port
abbrev pub downstream_end : Platform → DownstreamPort → LinkEnd
downstream_end platform port = end_of_port platform.ports port (position (λ switch. internal_bus switch == bus_of port.id) platform.switches)

abbrev pub function_end : ℕ → Option ℕ → LinkEnd
function_end switches None = root_end
function_end switches (Some place) = record { node = 1 + switches + place; output = 0 }

abbrev pub upstream_end_at : Platform → ℕ → Option ℕ → LinkEnd
upstream_end_at platform id None = function_end (length platform.switches) (position (λ function. function.id == id) platform.functions)
upstream_end_at platform id (Some place) = record { node = 1 + place; output = 0 }

-- where packets are sent up from the upstream port of a switch, or from a function
abbrev pub upstream_end : Platform → ℕ → LinkEnd
upstream_end platform id = upstream_end_at platform id (position (λ switch. switch.id == id) platform.switches)
