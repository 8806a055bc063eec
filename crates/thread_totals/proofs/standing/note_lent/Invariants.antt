use Rattle.std.proofs.Common.{map, take}
use Rattle.thread_totals.specs.Named.{AreNoted}
use Rattle.thread_totals.proofs.standing.note_lent.Given as goal

abbrev pub invariant-loop-frame : goal.invariant-loop-frame
invariant-loop-frame l = AreNoted l.initial.names.items (map (λ frame. frame.now) (take l.frame-index l.frames)) l.names.items
