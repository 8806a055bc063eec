use Rattle.reports.specs.Report.{violation_row}
use Rattle.reports.proofs.Writing.{lines_next}
use Rattle.reports.proofs.report.write_violations.Goals as goal

pub loop-violation-preserved : goal.loop-violation-preserved
loop-violation-preserved g c =
    lines_next violation_row c.args.violations.now c.loop-violation.violation-index c.violation-item.result _ _ _ c.loop-violation-test.true c.violation-item.is c.loop-violation.invariant c.in_ok-write_violation.ensures
