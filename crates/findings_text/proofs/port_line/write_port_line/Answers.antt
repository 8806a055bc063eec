use Rattle.reports.proofs.Writing.{joined}
use Rattle.findings_text.proofs.port_line.write_port_line.Goals as goal

pub returns : goal.returns
returns g c =
    joined _ _ _ _ _
    (joined _ _ _ _ _
    (joined _ _ _ _ _ (joined _ _ _ _ _ (rw c.saturating_sub.ensures at c.in_ok-write_indent.ensures) c.in_ok-write_port_head.ensures) c.in_ok-write_window.ensures)
    c.in_ok-write_controls.ensures)
    c.in_ok-write_egress.ensures
