use Rattle.std.proofs.Common.{◌≡◌, ◌++◌, map, take}
use Rattle.fabric_core.specs.declared.station.Station.TheVariants as station
use Rattle.sweeps.proofs.order.add_ports.Given as goal

abbrev pub invariant-loop-port : goal.invariant-loop-port
invariant-loop-port l = l.stations.items ≡ l.initial.stations.items ++ map station.Port (take l.port-index l.ports)
