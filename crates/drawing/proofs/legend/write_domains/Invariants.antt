use Rattle.std.specs.Io.KnownBytes.{Appends}
use Rattle.drawing.specs.Elements.{text_of}
use Rattle.drawing.specs.Legend.{domain_shapes}
use Rattle.drawing.proofs.legend.write_domains.Given as goal

-- the domains so far are written
abbrev pub invariant-loop-number : goal.invariant-loop-number
invariant-loop-number g l = Appends (g.W.Write.contents l.initial.out) (g.W.Write.contents l.out) (text_of (domain_shapes l.ports l.number))
