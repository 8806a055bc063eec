use Rattle.reports.proofs.Writing.{joined}
use Rattle.findings_text.proofs.witness.write_witness.Goals as goal

pub returns : goal.returns
returns g c = joined _ _ _ _ _ c.in_ok-write_head.ensures c.in_ok-write_steps.ensures
