use Rattle.reports.proofs.Writing.{joined}
use Rattle.findings_text.proofs.linux.write_apart_line.Goals as goal

pub returns : goal.returns
returns g c =
    joined _ _ _ _ _ (joined _ _ _ _ _ c.in_ok-write_all.ensures.bytes c.in_ok-write_apart_head.ensures) c.in_ok-write_apart_tail.ensures
