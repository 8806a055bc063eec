use Rattle.std.proofs.Common.{◌≡◌}
use Rattle.monitor.specs.Reporting.{seat_of}
use Rattle.thread_tests.proofs.violation_threads.report_all.Given as goal

abbrev pub invariant-loop-number : goal.invariant-loop-number
invariant-loop-number g l = seat_of l.port ≡ seat_of l.fn.port
