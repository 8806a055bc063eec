use Rattle.journal_text.proofs.JournalsWritten.{with_packet, without_packet}
use Rattle.journal_text.proofs.journals.write_step.Goals as goal

pub returns-in-Some : goal.returns-in-Some
returns-in-Some g c =
    with_packet c.write_packet_note.result _ _ _ c.args.machine.now c.apply.new.self c.args.entry.now c.in-Some.bytes.now c.entry_fits.ensures c.in-Ok.ensures.ok
    (rw (c.domain.ensures, c.start.ensures) at c.in_ok-write_entry.ensures)
    (rw c.made-number.ensures at c.in-Some.ensures.value)
    (rw c.made-number.ensures at c.write_packet_note.ensures)

pub returns-in-None : goal.returns-in-None
returns-in-None g c =
    without_packet _ _ c.args.machine.now c.apply.new.self c.args.entry.now c.entry_fits.ensures c.in-Ok.ensures.ok
    (rw (c.domain.ensures, c.start.ensures) at c.in_ok-write_entry.ensures)
    (rw c.made-number.ensures at c.in-None.ensures.value)
