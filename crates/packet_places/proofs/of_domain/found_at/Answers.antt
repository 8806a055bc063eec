use Rattle.std.proofs.Common.{List, arith, map, subst}
use Rattle.frame_log.specs.declared.frame.Frame.{Frame}
use Rattle.std.specs.Borrow.{Bor}
use Rattle.interconnect.specs.Views.{channels}
use Rattle.packet_places.specs.Noted.{Notes}
use Rattle.packet_places.specs.Standing.{standing_in}
use Rattle.packet_places.proofs.Visiting.{noted_next}
use Rattle.packet_places.proofs.of_domain.found_at.Goals as goal

pub loop-number-preserved : goal.loop-number-preserved
loop-number-preserved c =
    let frames = map (λ frame. frame.now) c.in_ok-frames.frames.items in
    noted_next (standing_in c.args.interconnect.now.tree.links (channels c.args.interconnect.now) c.args.agents.now.outboxes) c.args.domain c.args.places.now c.loop-number.number c.index-places-number.result frames c.loop-number.found.entries c.note.new.found.entries
    (omega arith) c.index-places-number.is c.in_ok-frames.ensures c.loop-number.invariant
    (subst (λ (lent : List (Bor Frame)). Notes c.args.domain c.loop-number.number (map (λ frame. frame.now) lent) c.loop-number.found.entries c.note.new.found.entries) c.deref.ensures.value c.in_ok-note.ensures)
