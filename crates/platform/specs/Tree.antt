-- Where switches, ports and functions stand (PCIe 4.0, 7.5.1.3): the upstream port of a switch has the
-- first bus below the port above, and the switch's own ports have the next bus.
use Rattle.std.specs.Prelude.{ℕ, ◌+◌, ◌==◌, Bool, ◌||◌, List, Option, Some, None, is_some, is_none, option_and_then}
use Rattle.std.specs.List.{find, list_any}
use Rattle.fab_types.specs.Id.{id_of, bus_of}
use Rattle.platform.specs.declared.parts.Switch.{Switch}
use Rattle.platform.specs.declared.parts.DownstreamPort.{DownstreamPort}
use Rattle.platform.specs.declared.parts.EndpointFunction.{EndpointFunction}
use Rattle.platform.specs.Owners.{first_port, is_function}

abbrev pub port_at : List DownstreamPort → ℕ → Option DownstreamPort
port_at ports id = find (λ port. port.id == id) ports

-- the ID of whatever stands directly below a port
abbrev pub id_below : DownstreamPort → ℕ
id_below port = id_of port.secondary 0 0

abbrev pub port_leading_to : List DownstreamPort → ℕ → Option DownstreamPort
port_leading_to ports id = find (λ port. id_below port == id) ports

abbrev pub is_switch : List Switch → ℕ → Bool
is_switch switches id = list_any (λ switch. switch.id == id) switches

abbrev pub has_root : List Switch → Bool
has_root switches = list_any (λ switch. is_none switch.above) switches

-- the bus of a switch's downstream ports
abbrev pub internal_bus : Switch → ℕ
internal_bus switch = bus_of switch.id + 1

abbrev pub switch_on : List Switch → ℕ → Option Switch
switch_on switches bus = find (λ switch. internal_bus switch == bus) switches

-- the port above a switch, if it isn't the top one
abbrev pub port_above : List DownstreamPort → Switch → Option DownstreamPort
port_above ports switch = option_and_then (λ id. port_at ports id) switch.above

-- the port above the switch whose ports have this bus
unfoldable pub port_above_bus : List Switch → List DownstreamPort → ℕ → Option DownstreamPort
port_above_bus switches ports bus = option_and_then (λ switch. port_above ports switch) (switch_on switches bus)

-- do two switches stand above the one whose ports have this bus?
unfoldable pub is_third_level : List Switch → List DownstreamPort → ℕ → Bool
is_third_level switches ports bus =
    is_some (option_and_then (λ port. port_above_bus switches ports (bus_of port.id)) (port_above_bus switches ports bus))

-- does something stand there already?
abbrev pub is_taken : List Switch → List EndpointFunction → ℕ → Bool
is_taken switches functions id = is_switch switches id || is_function functions id

-- the owner of the port directly above a function, or 0, which is no domain, without one
abbrev pub owner_or_none : Option DownstreamPort → ℕ
owner_or_none None = 0
owner_or_none (Some port) = port.owner

unfoldable pub domain_of : List DownstreamPort → ℕ → ℕ
domain_of ports function = owner_or_none (first_port ports function)

-- is it a port on this bus?
abbrev pub is_on_bus : ℕ → DownstreamPort → Bool
is_on_bus bus port = bus_of port.id == bus
