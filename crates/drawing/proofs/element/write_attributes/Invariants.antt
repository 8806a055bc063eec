use Rattle.std.proofs.Common.{take}
use Rattle.std.specs.Io.KnownBytes.{Appends}
use Rattle.std.specs.List.{flat_map}
use Rattle.drawing.specs.Attributes.{attribute_text}
use Rattle.drawing.proofs.element.write_attributes.Given as goal

-- the attributes so far are written
abbrev pub invariant-loop-attribute : goal.invariant-loop-attribute
invariant-loop-attribute g l = Appends (g.W.Write.contents l.initial.out) (g.W.Write.contents l.out) (flat_map attribute_text (take l.attribute-index l.attributes))
