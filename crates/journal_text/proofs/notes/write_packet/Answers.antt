use Rattle.journal_text.proofs.Writing.{joined_ok}
use Rattle.journal_text.proofs.notes.write_packet.Goals as goal

pub returns : goal.returns
returns g c = joined_ok c.write_end.result _ _ _ _ _ c.in_ok-write_head.ensures (rw (c.address.ensures.value, c.status.ensures.value) at c.write_end.ensures)
