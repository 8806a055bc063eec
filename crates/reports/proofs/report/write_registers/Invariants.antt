use Rattle.std.proofs.Common.{take}
use Rattle.std.specs.Io.KnownBytes.{Appends}
use Rattle.std.specs.List.{flat_map}
use Rattle.reports.specs.Report.{register_lines}
use Rattle.reports.proofs.report.write_registers.Given as goal

-- the pages so far are written
abbrev pub invariant-loop-function : goal.invariant-loop-function
invariant-loop-function g l =
    Appends (g.W.Write.contents l.initial.out) (g.W.Write.contents l.out) (flat_map (register_lines l.domain.state.registers) (take l.function-index l.functions))
