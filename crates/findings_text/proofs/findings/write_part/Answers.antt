use Rattle.reports.proofs.Writing.{joined}
use Rattle.findings_text.proofs.findings.write_part.Goals as goal

pub returns : goal.returns
returns g c = joined _ _ _ _ _ (joined _ _ _ _ _ c.in_ok-write_all.ensures.bytes c.in_ok-write_numbers.ensures) c.in_ok-write_all-2.ensures.bytes
