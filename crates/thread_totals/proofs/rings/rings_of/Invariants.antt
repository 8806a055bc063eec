use Rattle.std.proofs.Common.{◌≡◌, take}
use Rattle.std.specs.List.{flat_map}
use Rattle.thread_totals.specs.Begins.{AddUp, rings_by}
use Rattle.thread_totals.proofs.rings.rings_of.Given as goal

abbrev pub invariant-loop-worker : goal.invariant-loop-worker
invariant-loop-worker l = (l.rings.items ≡ flat_map (rings_by l.start) (take l.worker-index l.remains)) × AddUp l.rings.items
