use Rattle.std.proofs.Common.{◌≡◌}
use Rattle.thread_tests.proofs.violation_threads.take.Given as goal

abbrev pub invariant-loop : goal.invariant-loop
invariant-loop g l = (l.watch.queue ≡ l.initial.watch.queue) × (l.watch.ended ≡ l.initial.watch.ended)
