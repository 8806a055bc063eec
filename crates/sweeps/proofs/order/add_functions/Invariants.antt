use Rattle.std.proofs.Common.{◌≡◌, ◌++◌, map, take}
use Rattle.fabric_core.specs.declared.station.Station.TheVariants as station
use Rattle.sweeps.proofs.order.add_functions.Given as goal

abbrev pub invariant-loop-function : goal.invariant-loop-function
invariant-loop-function l = l.stations.items ≡ l.initial.stations.items ++ map station.Function (take l.function-index l.functions)
