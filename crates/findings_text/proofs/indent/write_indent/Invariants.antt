use Rattle.std.specs.Io.KnownBytes.{Appends}
use Rattle.findings_text.specs.Tree.{indent}
use Rattle.findings_text.proofs.indent.write_indent.Given as goal

-- the levels so far are written
abbrev pub invariant-loop : goal.invariant-loop
invariant-loop g l = Appends (g.W.Write.contents l.initial.out) (g.W.Write.contents l.out) (indent l.counter)
