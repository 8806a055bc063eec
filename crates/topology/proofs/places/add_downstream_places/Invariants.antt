use Rattle.std.proofs.Common.{◌≡◌, ◌++◌, map, take}
use Rattle.topology.specs.Places.{downstream_place}
use Rattle.topology.proofs.places.add_downstream_places.Given as goal

abbrev pub invariant-loop-port : goal.invariant-loop-port
invariant-loop-port l = l.places.items ≡ l.initial.places.items ++ map (downstream_place l.layout) (take l.port-index l.port-items)
