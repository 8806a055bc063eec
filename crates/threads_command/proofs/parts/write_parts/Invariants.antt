use Rattle.std.proofs.Common.{take}
use Rattle.port_threads.specs.Left.{frames_of}
use Rattle.reports.specs.Writing.{Wrote}
use Rattle.threads_command.specs.Counted.{AreCountedParts}
use Rattle.thread_totals.specs.Counts.{totals_of}
use Rattle.threads_command.proofs.parts.write_parts.Given as goal

-- the domains so far are written
abbrev pub invariant-loop-place : goal.invariant-loop-place
invariant-loop-place g l =
    Wrote (g.W.Write.contents l.initial.out) (g.W.Write.contents l.out) (AreCountedParts (totals_of (frames_of l.stopped) l.stopped.remains.items) (take l.place l.stopped.domains.items))
