-- What holds of ports with the tables of their owners.
use Rattle.std.specs.Prelude.{◌≡◌}
use Rattle.bridge.specs.declared.owners.OwnedPorts.TheInside.{Inside}
use Rattle.bridge.specs.Owners.{owners_of_buses, owners_of_hosts}

-- the tables are those of the ports
pub record AreOwnedPorts (s : Inside) : Type 0 where
  pub buses : s.buses.items ≡ owners_of_buses s.ports.items
  pub hosts : s.hosts.items ≡ owners_of_hosts s.ports.items
