use Rattle.reports.proofs.Writing.{joined}
use Rattle.findings_text.proofs.findings.write_unguarded.Goals as goal

pub returns : goal.returns
returns g c = joined _ _ _ _ _ c.in_ok-write_pairs.ensures c.in_ok-write_share.ensures
