use Rattle.std.proofs.Common.{take}
use Rattle.std.specs.Io.KnownBytes.{Appends}
use Rattle.std.specs.List.{flat_map}
use Rattle.reports.specs.Report.{numbered_lines}
use Rattle.reports.proofs.report.write_frames.Given as goal

-- the frames so far are written
abbrev pub invariant-loop-number : goal.invariant-loop-number
invariant-loop-number g l =
    Appends (g.W.Write.contents l.initial.out) (g.W.Write.contents l.out)
    (flat_map (numbered_lines l.domain.state.frames) (take l.number-index l.number-items))
