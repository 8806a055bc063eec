use Rattle.reports.specs.Report.{record_line}
use Rattle.reports.proofs.Writing.{lines_next}
use Rattle.reports.proofs.report.write_records.Goals as goal

pub loop-delivery-preserved : goal.loop-delivery-preserved
loop-delivery-preserved g c =
    lines_next record_line c.args.records.now c.loop-delivery.delivery-index c.delivery-item.result _ _ _ c.loop-delivery-test.true c.delivery-item.is c.loop-delivery.invariant c.in_ok-write_record.ensures
