use Rattle.std.proofs.Common.{◌≡◌}
use Rattle.monitor.proofs.watch.Watch.finish.Given as goal

abbrev pub invariant-loop : goal.invariant-loop
invariant-loop g l = (l.watch.ended ≡ l.fn.self.ended) × (l.watch.seats ≡ l.fn.self.seats)
