use Rattle.std.proofs.Common.{◌≡◌, Option, None, ap, sym, ◌∙◌, subst}
use Rattle.std.specs.Prelude.{OnOk}
use Rattle.std.specs.Io.KnownBytes.{Appends}
use Rattle.fab_types.specs.declared.faults.malformed.Malformed.{Malformed}
use Rattle.tlp_view.specs.Bytes.{packet_of}
use Rattle.tlp_view.specs.Malformed.{malformed}
use Rattle.tlp_view.specs.Packet.{Packet}
use Rattle.journal_text.specs.Notes.{bytes_are, packet_text}
use Rattle.journal_text.proofs.notes.write_bytes.Goals as goal

well_formed : (cause : Option Malformed) (read p : Packet) → cause ≡ None → read ≡ p → packet_text read ≡ bytes_are cause p
well_formed cause read p none same = ap packet_text same ∙ ap (λ (m : Option Malformed). bytes_are m p) (sym none)

pub returns-in-Ok : goal.returns-in-Ok
returns-in-Ok g c =
    let bytes = c.args.bytes.now in
    let text = well_formed (malformed bytes) c.in-Ok.packet (packet_of bytes) c.in-Ok.ensures.value.0 c.in-Ok.ensures.value.1 in
    subst (λ t. OnOk c.write_packet.result (Appends (g.W.Write.contents c.args.out.now) (g.W.Write.contents c.write_packet.new.out) t)) text c.write_packet.ensures
