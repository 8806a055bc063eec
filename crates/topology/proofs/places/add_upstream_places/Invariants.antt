use Rattle.std.proofs.Common.{◌≡◌, ◌++◌, map, take}
use Rattle.topology.specs.Places.{upstream_place}
use Rattle.topology.proofs.places.add_upstream_places.Given as goal

abbrev pub invariant-loop-switch : goal.invariant-loop-switch
invariant-loop-switch l = l.places.items ≡ l.initial.places.items ++ map (upstream_place l.layout) (take l.switch-index l.switch-items)
