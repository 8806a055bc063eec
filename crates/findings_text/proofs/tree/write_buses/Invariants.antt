use Rattle.std.specs.Io.KnownBytes.{Appends}
use Rattle.findings_text.specs.Tree.{lines_below, parts_of}
use Rattle.findings_text.proofs.tree.write_buses.Given as goal

-- the buses so far are written
abbrev pub invariant-loop-bus : goal.invariant-loop-bus
invariant-loop-bus g l = Appends (g.W.Write.contents l.initial.out) (g.W.Write.contents l.out) (lines_below (parts_of l.tree) l.bus)
