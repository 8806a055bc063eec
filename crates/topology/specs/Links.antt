-- The links of a tree. Each joins a function, or the upstream port of a switch, to the port above it.
use Rattle.std.specs.Prelude.{ℕ, ◌==◌, List, ◌++◌, map, Option, Some, None, option_map}
use Rattle.std.specs.List.{find}
use Rattle.fab_types.specs.declared.place.Direction.{Direction}
use Rattle.fab_types.specs.declared.place.Way.{Way}
use Rattle.fab_types.specs.declared.place.Way.TheVariants.{Up, Down}
use Rattle.platform.specs.declared.parts.Switch.{Switch}
use Rattle.platform.specs.declared.parts.DownstreamPort.{DownstreamPort}
use Rattle.platform.specs.declared.parts.EndpointFunction.{EndpointFunction}
use Rattle.platform.specs.Platform.{Platform}
use Rattle.platform.specs.Tree.{port_above, port_leading_to}
use Rattle.topology.specs.declared.links.Link.{Link}
use Rattle.topology.specs.declared.nodes.LinkEnd.{LinkEnd}
use Rattle.topology.specs.Nodes.{downstream_end, root_end, upstream_end}

-- without a port above it hangs below the root port
abbrev pub end_above : Platform → Option DownstreamPort → LinkEnd
end_above platform None = root_end
end_above platform (Some port) = downstream_end platform port

abbrev pub link_of_switch : Platform → Switch → Link
link_of_switch platform switch = record { lower = switch.id; above = end_above platform (port_above platform.ports switch); below = upstream_end platform switch.id }

abbrev pub link_of_function : Platform → EndpointFunction → Link
link_of_function platform function = record { lower = function.id; above = end_above platform (port_leading_to platform.ports function.id); below = upstream_end platform function.id }

abbrev pub links_of : Platform → List Link
links_of platform = map (link_of_switch platform) platform.switches ++ map (link_of_function platform) platform.functions

abbrev pub link_at : List Link → ℕ → Option Link
link_at links id = find (λ link. link.lower == id) links

-- where packets are sent from in one direction of a link
abbrev pub sending_end : Way → Link → LinkEnd
sending_end Up link = link.below
sending_end Down link = link.above

-- where packets of a direction are sent from, if there is such a link
abbrev pub sender_of : List Link → Direction → Option LinkEnd
sender_of links direction = option_map (sending_end direction.way) (link_at links direction.lower)
