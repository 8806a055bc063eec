-- Who owns an ID, and where the ports lead (PCIe 4.0, 7.5.1.3).
use Rattle.std.specs.Prelude.{ℕ, ◌==◌, Bool, ◌&&◌, nat_le, List, Option, Some, option_map, if◌then◌else◌}
use Rattle.std.specs.List.{find, list_any}
use Rattle.fab_types.specs.Id.{bus_of, device_of, function_of}
use Rattle.platform.specs.declared.parts.DownstreamPort.{DownstreamPort}
use Rattle.platform.specs.declared.parts.EndpointFunction.{EndpointFunction}
use Rattle.platform.specs.Share.{Share}

-- is the bus below the port?
abbrev pub holds_bus : DownstreamPort → ℕ → Bool
holds_bus port bus = nat_le port.secondary bus && nat_le bus port.subordinate

-- is the address in the port's window?
abbrev pub holds_address : DownstreamPort → ℕ → Bool
holds_address port address = nat_le port.base address && nat_le address port.limit

-- the port directly above a function
abbrev pub first_port : List DownstreamPort → ℕ → Option DownstreamPort
first_port ports function = find (λ port. port.secondary == bus_of function) ports

-- the domain of a function: the owner of the port directly above it
abbrev pub domain_above : List DownstreamPort → ℕ → Option ℕ
domain_above ports function = option_map (λ port. port.owner) (first_port ports function)

abbrev pub owns_port : List DownstreamPort → ℕ → Bool
owns_port ports domain = list_any (λ port. port.owner == domain) ports

abbrev pub owner_of_bus : List DownstreamPort → ℕ → Option ℕ
owner_of_bus ports bus = option_map (λ port. port.owner) (find (λ port. holds_bus port bus) ports)

-- the domain that owns an ID: as the ID of its host, if it owns a port, or by the ports above the bus
abbrev pub owner_of_parts : List DownstreamPort → ℕ → ℕ → ℕ → Option ℕ
owner_of_parts ports bus device function =
    if (bus == 0) && (function == 0) && owns_port ports device then Some device else owner_of_bus ports bus

abbrev pub owner_of : List DownstreamPort → ℕ → Option ℕ
owner_of ports id = owner_of_parts ports (bus_of id) (device_of id) (function_of id)

abbrev pub is_function : List EndpointFunction → ℕ → Bool
is_function functions id = list_any (λ line. line.id == id) functions

-- the BAR of a function (PCIe 4.0, 7.5.1.2.1)
abbrev pub bar_of : List EndpointFunction → ℕ → Option ℕ
bar_of functions id = option_map (λ line. line.bar) (find (λ line. line.id == id) functions)

-- is it a function of this domain?
abbrev pub is_own_function : Share → ℕ → Bool
is_own_function share id = is_function share.functions id && list_any (λ port. (port.owner == share.domain) && (port.secondary == bus_of id)) share.ports
