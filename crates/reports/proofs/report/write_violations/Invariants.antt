use Rattle.std.proofs.Common.{take}
use Rattle.std.specs.Io.KnownBytes.{Appends}
use Rattle.reports.specs.Report.{violation_lines}
use Rattle.reports.proofs.report.write_violations.Given as goal

-- the violations so far are written
abbrev pub invariant-loop-violation : goal.invariant-loop-violation
invariant-loop-violation g l = Appends (g.W.Write.contents l.initial.out) (g.W.Write.contents l.out) (violation_lines (take l.violation-index l.violations))
