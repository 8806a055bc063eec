use Rattle.std.proofs.Common.{refl}
use Rattle.reports.specs.Report.{holding_lines}
use Rattle.reports.proofs.Writing.{joined}
use Rattle.reports.proofs.report.write_holding.Goals as goal

pub returns : goal.returns
returns g c = (
  holding_lines c.args.domain.now c.in_ok-functions.functions.items,
  record { functions = c.in_ok-functions.functions.items; rising = c.in_ok-functions.ensures; lines = refl },
  joined _ _ _ _ _ (joined _ _ _ _ _ c.in_ok-write_frames.ensures (rw c.deref.ensures.value at c.in_ok-write_registers.ensures))
      (rw c.records.ensures at c.in_ok-write_records.ensures),
)
