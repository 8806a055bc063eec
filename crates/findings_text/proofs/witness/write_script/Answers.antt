use Rattle.reports.proofs.Writing.{joined}
use Rattle.findings_text.proofs.witness.write_script.Goals as goal

pub returns : goal.returns
returns g c = joined _ _ _ _ _ c.in_ok-write_all.ensures.bytes c.in_ok-write_witness.ensures
