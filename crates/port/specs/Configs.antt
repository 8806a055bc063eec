-- A port of a switch, as a layout has it (PCIe 4.0, 7.5.1.3), and the lanes of its switch.
use Rattle.std.specs.Prelude.{ℕ, suc, ◌==◌, Bool, ◌&&◌, List, map, Option, Some, None, option_map}
use Rattle.std.specs.Option.{option_map_or}
use Rattle.std.specs.List.{filter, position}
use Rattle.fab_types.specs.Id.{bus_of}
use Rattle.fab_types.specs.declared.place.Direction.{Direction}
use Rattle.fab_types.specs.declared.place.Way.TheVariants.{Up, Down}
use Rattle.platform.specs.declared.parts.DownstreamPort.{DownstreamPort}
use Rattle.platform.specs.declared.parts.Switch.{Switch}
use Rattle.platform.specs.Tree.{is_on_bus}
use Rattle.platform.specs.Tree.{port_at, id_below, internal_bus, is_taken}
use Rattle.platform.specs.Platform.{Platform}
use Rattle.bridge.specs.Routes.{switch_at}
use Rattle.port.specs.declared.config.Exit.{Exit}

-- A switch has a lane out of its upstream port, numbered 0, and one out of each downstream port, numbered from 1.
pub record Config : Type 0 where
  pub id : ℕ
  pub line : Option DownstreamPort  -- of a downstream port
  pub exits : List Exit  -- the downstream ports of its switch
  pub own : ℕ  -- the lane out of this port

-- does anything stand below the port?
abbrev pub exit_of : Platform → DownstreamPort → Exit
exit_of platform line = record { port = line.id; leads_on = is_taken platform.switches platform.functions (id_below line) }

-- the downstream ports of the switch whose ports are on this bus
abbrev pub exits_of : Platform → ℕ → List Exit
exits_of platform bus = map (exit_of platform) (filter (is_on_bus bus) platform.ports)

abbrev pub is_of_port : ℕ → Exit → Bool
is_of_port port exit = exit.port == port

-- the lane out of a downstream port itself, if its switch has the port
abbrev pub own_lane : List Exit → ℕ → Option ℕ
own_lane exits id = option_map suc (position (is_of_port id) exits)

abbrev pub leads_to : ℕ → Exit → Bool
leads_to port exit = is_of_port port exit && exit.leads_on

-- the lane out of a downstream port, if anything stands below it
abbrev pub lane_to : List Exit → ℕ → Option ℕ
lane_to exits port = option_map suc (position (leads_to port) exits)

abbrev pub config_with : DownstreamPort → List Exit → ℕ → Config
config_with line exits own = record { id = line.id; line = Some line; exits = exits; own = own }

-- a downstream port, if its switch has it
abbrev pub known_config : Platform → DownstreamPort → Option Config
known_config platform line = let exits = exits_of platform (bus_of line.id) in option_map (config_with line exits) (own_lane exits line.id)

-- a downstream port of the platform
abbrev pub downstream_config : Platform → DownstreamPort → Config
downstream_config platform line = let exits = exits_of platform (bus_of line.id) in config_with line exits (option_map_or suc (position (is_of_port line.id) exits) 0)

abbrev pub upstream_config : Platform → Switch → Config
upstream_config platform switch = record {
  id = switch.id;
  line = None;
  exits = exits_of platform (internal_bus switch);
  own = 0;
}

abbrev pub config_unless_below : Platform → ℕ → Option DownstreamPort → Option Config
config_unless_below platform id (Some line) = Some (downstream_config platform line)
config_unless_below platform id None = option_map (upstream_config platform) (switch_at platform.switches id)

-- the port of this ID: a downstream port, or the upstream port of a switch
abbrev pub config_of : Platform → ℕ → Option Config
config_of platform id = config_unless_below platform id (port_at platform.ports id)

abbrev pub direction_by : ℕ → Option DownstreamPort → Direction
direction_by id None = record { lower = id; way = Down }
direction_by id (Some line) = record { lower = id_below line; way = Up }

-- the direction in which packets come into the port: up from what stands below a downstream port, or down
abbrev pub direction_in : Config → Direction
direction_in config = direction_by config.id config.line
