use Rattle.std.proofs.Common.{◌≡◌}
use Rattle.monitor.specs.Reporting.{seat_of}
use Rattle.thread_tests.proofs.violation_threads.report.Given as goal

abbrev pub invariant-loop : goal.invariant-loop
invariant-loop g l = seat_of l.port ≡ seat_of l.initial.port
