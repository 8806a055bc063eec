use Rattle.reports.proofs.Writing.{joined}
use Rattle.findings_text.proofs.idle_lines.write_above.Goals as goal

pub returns : goal.returns
returns g c =
    joined _ _ _ _ _ (joined _ _ _ _ _ (rw c.id.ensures at c.in_ok-write_id.ensures) c.in_ok-write_all.ensures.bytes) c.in_ok-write_all-2.ensures.bytes
