-- Who owns the IDs of each bus, and those of hosts, by the tables of a `Bridge`.
use Rattle.std.specs.Prelude.{ℕ, List, Option}
use Rattle.fab_types.specs.Id.{host_of}
use Rattle.platform.specs.declared.parts.DownstreamPort.{DownstreamPort}
use Rattle.platform.specs.Owners.{owner_of, owner_of_bus}
use Rattle.bridge.specs.Tables.{table_of}

-- by bus number 0 to 255
abbrev pub owners_of_buses : List DownstreamPort → List (Option ℕ)
owners_of_buses ports = table_of 256 (owner_of_bus ports)

abbrev pub owner_of_host : List DownstreamPort → ℕ → Option ℕ
owner_of_host ports device = owner_of ports (host_of device)

-- by device number 0 to 31 of bus 0, where hosts have their IDs
abbrev pub owners_of_hosts : List DownstreamPort → List (Option ℕ)
owners_of_hosts ports = table_of 32 (owner_of_host ports)
