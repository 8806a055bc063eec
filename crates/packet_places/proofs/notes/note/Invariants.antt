use Rattle.std.proofs.Common.{map, take}
use Rattle.packet_places.specs.Noted.{Notes}
use Rattle.packet_places.proofs.notes.note.Given as goal

abbrev pub invariant-loop-frame : goal.invariant-loop-frame
invariant-loop-frame l = Notes l.domain l.place (map (λ frame. frame.now) (take l.frame-index l.frames)) l.initial.found.entries l.found.entries
