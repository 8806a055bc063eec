-- Where the ports of a switch send a packet: by its address (PCIe 4.0, 2.2.4.1) or by the bus of an ID (2.2.4.2), to the port
-- whose window or buses have it (7.5.1.3). A switch whose upstream port is on bus U has its ports on bus U + 1.
use Rattle.std.specs.Prelude.{ℕ, ◌==◌, Bool, false, ◌&&◌, List, Option, Some, None, option_map, if◌then◌else◌}
use Rattle.std.specs.List.{find}
use Rattle.fab_types.specs.Id.{bus_of}
use Rattle.fab_types.specs.declared.head.Header.{Header}
use Rattle.fab_types.specs.declared.head.Header.TheVariants as header
use Rattle.platform.specs.declared.parts.DownstreamPort.{DownstreamPort}
use Rattle.platform.specs.declared.parts.Switch.{Switch}
use Rattle.platform.specs.Owners.{holds_bus, holds_address}
use Rattle.platform.specs.Tree.{is_on_bus}
use Rattle.platform.specs.Tree.{port_at, internal_bus}
use Rattle.bridge.specs.declared.route.Route.{Route}
use Rattle.bridge.specs.declared.route.Route.TheVariants.{Up, Port, OwnEgress, Nobody}
use Rattle.bridge.specs.declared.target.Target.{Target}
use Rattle.bridge.specs.declared.target.Target.TheVariants.{Bus, Address}
use Rattle.bridge.specs.Tables.{table_of}

-- memory requests go by their address, completions by the bus of the ID that they go to
abbrev pub target_of : Header → Option Target
target_of header.Malformed = None
target_of (header.Memory requester address_type address) = Some (Address address)
target_of (header.OtherRequest requester) = None
target_of (header.Completion target relaxed_ordering) = Some (Bus (bus_of target))

abbrev pub holds_target : DownstreamPort → Target → Bool
holds_target port (Bus bus) = holds_bus port bus
holds_target port (Address address) = holds_address port address

-- is the target below the port? what has no target is below no port
abbrev pub holds : DownstreamPort → Option Target → Bool
holds port None = false
holds port (Some target) = holds_target port target

-- is it a port on this bus, with the target below it?
abbrev pub is_holder : ℕ → Option Target → DownstreamPort → Bool
is_holder bus target port = is_on_bus bus port && holds port target

-- the ports of one switch are those on one bus
abbrev pub holder_on : List DownstreamPort → ℕ → Option Target → Option DownstreamPort
holder_on ports bus target = find (is_holder bus target) ports

-- the port on an internal bus that has this bus below it, by its ID
abbrev pub port_to_bus : List DownstreamPort → ℕ → ℕ → Option ℕ
port_to_bus ports internal bus = option_map (λ port. port.id) (holder_on ports internal (Some (Bus bus)))

-- by bus number 0 to 255: the port of the switch that has the bus below it
abbrev pub bus_table : List DownstreamPort → Switch → List (Option ℕ)
bus_table ports switch = table_of 256 (port_to_bus ports (internal_bus switch))

abbrev pub to_holder : Route → Option DownstreamPort → Route
to_holder otherwise None = otherwise
to_holder otherwise (Some port) = Port port.id

-- from a downstream port: to itself, to another port of its switch, or up
abbrev pub route_upward : List DownstreamPort → DownstreamPort → Option Target → Route
route_upward ports own target = if holds own target then OwnEgress else to_holder Up (holder_on ports (bus_of own.id) target)

-- from the upstream port of a switch: to a port of that switch
abbrev pub route_downward : List DownstreamPort → Switch → Option Target → Route
route_downward ports switch target = to_holder Nobody (holder_on ports (internal_bus switch) target)

abbrev pub switch_at : List Switch → ℕ → Option Switch
switch_at switches id = find (λ switch. switch.id == id) switches

abbrev pub route_below : List DownstreamPort → Option Switch → Option Target → Route
route_below ports None target = Nobody
route_below ports (Some switch) target = route_downward ports switch target

abbrev pub route_from : List Switch → List DownstreamPort → ℕ → Option Target → Option DownstreamPort → Route
route_from switches ports ingress target (Some own) = route_upward ports own target
route_from switches ports ingress target None = route_below ports (switch_at switches ingress) target

-- where a packet goes from a port; from what is no port of a switch, nowhere
abbrev pub route_of : List Switch → List DownstreamPort → ℕ → Header → Route
route_of switches ports ingress header = route_from switches ports ingress (target_of header) (port_at ports ingress)

abbrev pub bus_from : List Switch → ℕ → Option DownstreamPort → Option ℕ
bus_from switches ingress (Some own) = Some (bus_of own.id)
bus_from switches ingress None = option_map internal_bus (switch_at switches ingress)

-- the bus of the ports of the switch that a port belongs to
abbrev pub switch_bus : List Switch → List DownstreamPort → ℕ → Option ℕ
switch_bus switches ports ingress = bus_from switches ingress (port_at ports ingress)

-- out of a port: the one where the packet came in, or another
abbrev pub exit_at : ℕ → ℕ → Route
exit_at ingress id = if id == ingress then OwnEgress else Port id
