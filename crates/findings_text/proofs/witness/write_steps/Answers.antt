use Rattle.reports.proofs.Writing.{joined}
use Rattle.findings_text.proofs.witness.write_steps.Goals as goal

pub returns : goal.returns
returns g c =
    joined _ _ _ _ _ (joined _ _ _ _ _ (joined _ _ _ _ _ c.in_ok-write_submitter.ensures (rw c.as_slice.ensures at c.in_ok-write_packet.ensures)) c.in_ok-write_own.ensures)
    c.in_ok-write_all.ensures.bytes
