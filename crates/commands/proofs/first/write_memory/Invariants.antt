use Rattle.std.proofs.Common.{take}
use Rattle.std.specs.Io.KnownBytes.{Appends}
use Rattle.std.specs.List.{flat_map}
use Rattle.reports.specs.Report.{memory_lines}
use Rattle.commands.proofs.first.write_memory.Given as goal

-- the domains so far are written
abbrev pub invariant-loop-domain : goal.invariant-loop-domain
invariant-loop-domain g l = Appends (g.W.Write.contents l.initial.out) (g.W.Write.contents l.out) (flat_map memory_lines (take l.domain-index l.domains))
