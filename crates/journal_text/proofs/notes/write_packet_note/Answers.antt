use Rattle.std.specs.Prelude.{codes}
use Rattle.tlp_view.specs.Bytes.{packet_of}
use Rattle.tlp_view.specs.Malformed.{malformed}
use Rattle.journal_text.specs.Notes.{bytes_are, note_head, note_text}
use Rattle.reports.proofs.Writing.{joined}
use Rattle.journal_text.proofs.Writing.{joined_ok}
use Rattle.journal_text.proofs.notes.write_packet_note.Goals as goal

pub returns : goal.returns
returns g c =
    let bytes = c.args.bytes.now in
    let w = g.W.Write in
    joined_ok c.write_all.result (w.contents c.args.out.now) (w.contents c.write_bytes.new.out) (w.contents c.write_all.new.self) (note_text c.args.number bytes) (codes "\n")
    (joined (w.contents c.args.out.now) (w.contents c.write.new.self) (w.contents c.write_bytes.new.out) (note_head c.args.number) (bytes_are (malformed bytes) (packet_of bytes)) c.in_ok-write.ensures.bytes c.in_ok-write_bytes.ensures)
    c.write_all.ensures.bytes
