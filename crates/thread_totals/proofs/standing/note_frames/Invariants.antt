use Rattle.std.proofs.Common.{take}
use Rattle.thread_totals.specs.Named.{AreNoted}
use Rattle.thread_totals.proofs.standing.note_frames.Given as goal

abbrev pub invariant-loop-frame : goal.invariant-loop-frame
invariant-loop-frame l = AreNoted l.initial.names.items (take l.frame-index l.frames) l.names.items
