use Rattle.std.proofs.Common.{◌≡◌}
use Rattle.thread_tests.proofs.violation_reports.report_all.Given as goal

abbrev pub invariant-loop-number : goal.invariant-loop-number
invariant-loop-number g l = g.R.Reporter.line l.reporter ≡ g.R.Reporter.line l.initial.reporter
