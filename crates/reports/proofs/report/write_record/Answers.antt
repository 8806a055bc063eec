use Rattle.reports.proofs.Writing.{joined}
use Rattle.reports.proofs.report.write_record.Goals as goal

pub returns : goal.returns
returns g c = joined _ _ _ _ _ c.in_ok-write_record_head.ensures (rw c.bytes.ensures.value at c.in_ok-write_packet.ensures)
