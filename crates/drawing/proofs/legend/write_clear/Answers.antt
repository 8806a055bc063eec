use Rattle.std.proofs.Common.{[], ◌∷◌}
use Rattle.drawing.proofs.Lists.{framed}
use Rattle.drawing.specs.Legend.{clear_shape}
use Rattle.drawing.specs.Placing.{legend_point}
use Rattle.drawing.specs.Shapes.{label_shape}
use Rattle.drawing.specs.declared.element.Tag.TheVariants as tag
use Rattle.drawing.specs.declared.attribute.Attribute.TheVariants as attribute
use Rattle.drawing.specs.declared.attribute.Colour.TheVariants as colour
use Rattle.drawing.specs.declared.label.Label.TheVariants as label
use Rattle.drawing.proofs.legend.write_clear.Goals as goal

pub returns : goal.returns
unfolding clear_shape
returns g c =
    framed tag.Group (attribute.Fill colour.Red ∷ []) (label_shape (legend_point 8) label.Clear) _ _ _ _ _
    c.in_ok-open.ensures
    (rw c.legend_point.ensures at c.in_ok-write_label.ensures)
    c.close.ensures
