use Rattle.std.proofs.Common.{[], ◌∷◌}
use Rattle.drawing.proofs.Lists.{framed}
use Rattle.drawing.specs.Elements.{Words}
use Rattle.drawing.specs.Ports.{span_shape}
use Rattle.drawing.specs.declared.element.Tag.TheVariants as tag
use Rattle.drawing.specs.declared.attribute.Attribute.TheVariants as attribute
use Rattle.drawing.proofs.port_figure.write_span.Goals as goal

pub returns : goal.returns
unfolding span_shape
returns g c =
    framed tag.Span (attribute.Fill c.args.colour ∷ []) (Words c.args.label) _ _ _ _ _
    c.in_ok-open.ensures
    c.in_ok-write.ensures.bytes
    c.close.ensures
