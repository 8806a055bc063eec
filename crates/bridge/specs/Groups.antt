-- How a `Bridge` holds the ports: those of each switch apart.
use Rattle.std.specs.Prelude.{ℕ, ◌==◌, Bool, List, map, Option, Some, None, option_map, if◌then◌else◌}
use Rattle.std.specs.List.{find, filter, position}
use Rattle.fab_types.specs.Id.{id_of, bus_of}
use Rattle.platform.specs.declared.parts.DownstreamPort.{DownstreamPort}
use Rattle.platform.specs.declared.parts.Switch.{Switch}
use Rattle.platform.specs.Owners.{holds_bus}
use Rattle.platform.specs.Tree.{is_on_bus}
use Rattle.platform.specs.Tree.{port_at, internal_bus}
use Rattle.bridge.specs.declared.route.Route.{Route}
use Rattle.bridge.specs.declared.route.Route.TheVariants.{Up, OwnEgress, Nobody}
use Rattle.bridge.specs.declared.target.Target.{Target}
use Rattle.bridge.specs.Routes.{holds, to_holder}
use Rattle.bridge.specs.Tables.{table_of}

-- a switch and its ports
pub record Group : Type 0 where
  pub line : Switch
  pub ports : List DownstreamPort

-- those of a switch are those on its internal bus
abbrev pub group_of : List DownstreamPort → Switch → Group
group_of ports line = record { line = line; ports = filter (is_on_bus (internal_bus line)) ports }

abbrev pub groups_of : List Switch → List DownstreamPort → List Group
groups_of switches ports = map (group_of ports) switches

-- among the ports of one switch: the one that has this bus below it, by its ID
abbrev pub port_to_bus_of : List DownstreamPort → ℕ → Option ℕ
port_to_bus_of ports bus = option_map (λ port. port.id) (find (λ port. holds_bus port bus) ports)

abbrev pub bus_table_of : List DownstreamPort → List (Option ℕ)
bus_table_of ports = table_of 256 (port_to_bus_of ports)

abbrev pub holder_of : Group → Option Target → Option DownstreamPort
holder_of group target = find (λ port. holds port target) group.ports

abbrev pub route_across : Group → DownstreamPort → Option Target → Route
route_across group own target = if holds own target then OwnEgress else to_holder Up (holder_of group target)

abbrev pub group_on : List Group → ℕ → Option Group
group_on groups bus = find (λ group. internal_bus group.line == bus) groups

abbrev pub group_at : List Group → ℕ → Option Group
group_at groups id = find (λ group. group.line.id == id) groups

-- an upstream port stands directly below another port, as device 0, function 0 of its bus (PCIe 4.0, 7.3.1)
abbrev pub is_first_on_bus : Switch → Bool
is_first_on_bus line = line.id == id_of (bus_of line.id) 0 0

abbrev pub group_below : List Group → ℕ → Option Group
group_below groups bus = find (λ group. bus_of group.line.id == bus) groups

-- by the bus of the upstream port: the place of the switch
abbrev pub place_below : List Group → ℕ → Option ℕ
place_below groups bus = position (λ group. bus_of group.line.id == bus) groups

abbrev pub places_of : List Group → List (Option ℕ)
places_of groups = table_of 256 (place_below groups)

abbrev pub route_into : Option Group → Option Target → Route
route_into None target = Nobody
route_into (Some group) target = to_holder Nobody (holder_of group target)

abbrev pub route_unless_own : List Group → ℕ → Option Target → Group → Option DownstreamPort → Route
route_unless_own groups ingress target group None = route_into (group_at groups ingress) target
route_unless_own groups ingress target group (Some own) = route_across group own target

abbrev pub route_unless_on : List Group → ℕ → Option Target → Option Group → Route
route_unless_on groups ingress target None = route_into (group_at groups ingress) target
route_unless_on groups ingress target (Some group) = route_unless_own groups ingress target group (port_at group.ports ingress)

-- the same route as `route_of`, found in one switch alone
abbrev pub route_among : List Group → ℕ → Option Target → Route
route_among groups ingress target = route_unless_on groups ingress target (group_on groups (bus_of ingress))
