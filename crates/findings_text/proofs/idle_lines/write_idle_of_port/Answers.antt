use Rattle.reports.proofs.Writing.{joined}
use Rattle.findings_text.proofs.idle_lines.write_idle_of_port.Goals as goal

pub returns : goal.returns
returns g c =
    joined _ _ _ _ _
    (joined _ _ _ _ _ (joined _ _ _ _ _ (joined _ _ _ _ _ c.in_ok-write_idle.ensures c.in_ok-write_idle-2.ensures) c.in_ok-write_idle-3.ensures) c.in_ok-write_idle-4.ensures)
    c.in_ok-write_idle-5.ensures
