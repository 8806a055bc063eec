use Rattle.std.proofs.Common.{take}
use Rattle.std.specs.Io.KnownBytes.{Appends}
use Rattle.std.specs.List.{flat_map}
use Rattle.findings_text.specs.Idle.{idle_lines}
use Rattle.findings_text.proofs.idle_lines.write_idle_of_all.Given as goal

-- the ports so far are written
abbrev pub invariant-loop-port : goal.invariant-loop-port
invariant-loop-port g l = Appends (g.W.Write.contents l.initial.out) (g.W.Write.contents l.out) (flat_map (idle_lines l.remarks.names l.ports l.pairs) (take l.port-index l.ports))
