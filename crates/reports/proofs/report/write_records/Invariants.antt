use Rattle.std.proofs.Common.{take}
use Rattle.std.specs.Io.KnownBytes.{Appends}
use Rattle.std.specs.List.{flat_map}
use Rattle.reports.specs.Report.{record_line}
use Rattle.reports.proofs.report.write_records.Given as goal

-- the records so far are written
abbrev pub invariant-loop-delivery : goal.invariant-loop-delivery
invariant-loop-delivery g l = Appends (g.W.Write.contents l.initial.out) (g.W.Write.contents l.out) (flat_map record_line (take l.delivery-index l.records))
