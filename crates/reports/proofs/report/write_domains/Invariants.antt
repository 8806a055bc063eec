use Rattle.std.proofs.Common.{take}
use Rattle.reports.specs.Writing.{Wrote}
use Rattle.reports.specs.Report.{AreParts}
use Rattle.reports.proofs.report.write_domains.Given as goal

-- the domains so far are written
abbrev pub invariant-loop-domain : goal.invariant-loop-domain
invariant-loop-domain g l = Wrote (g.W.Write.contents l.initial.out) (g.W.Write.contents l.out) (AreParts (take l.domain-index l.domains))
