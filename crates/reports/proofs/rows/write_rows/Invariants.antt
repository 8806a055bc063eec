use Rattle.std.specs.Io.KnownBytes.{Appends}
use Rattle.reports.specs.Report.{row_lines}
use Rattle.reports.proofs.rows.write_rows.Given as goal

-- the rows so far are written
abbrev pub invariant-loop-row : goal.invariant-loop-row
invariant-loop-row g l = Appends (g.W.Write.contents l.initial.out) (g.W.Write.contents l.out) (row_lines l.page l.bytes l.row)
