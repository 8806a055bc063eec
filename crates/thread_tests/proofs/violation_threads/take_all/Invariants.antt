use Rattle.std.proofs.Common.{◌≡◌}
use Rattle.thread_tests.proofs.violation_threads.take_all.Given as goal

abbrev pub invariant-loop : goal.invariant-loop
invariant-loop g l = (l.watch.queue ≡ l.fn.watch.queue) × (l.watch.ended ≡ l.fn.watch.ended)
