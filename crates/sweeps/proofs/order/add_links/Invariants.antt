use Rattle.std.proofs.Common.{◌≡◌, ◌++◌, take}
use Rattle.std.specs.List.{flat_map}
use Rattle.sweeps.specs.Sweeps.{both_ways}
use Rattle.sweeps.proofs.order.add_links.Given as goal

abbrev pub invariant-loop-lower : goal.invariant-loop-lower
invariant-loop-lower l = l.stations.items ≡ l.initial.stations.items ++ flat_map both_ways (take l.lower-index l.lower_ends)
