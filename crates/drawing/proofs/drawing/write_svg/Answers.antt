use Rattle.std.proofs.Common.{[], ◌∷◌}
use Rattle.drawing.specs.Drawing.{drawing_inside, drawing_of}
use Rattle.drawing.specs.Elements.{AreInside}
use Rattle.drawing.specs.Placing.{height_of, width_of}
use Rattle.drawing.specs.declared.attribute.Attribute.TheVariants as attribute
use Rattle.drawing.specs.declared.element.Tag.TheVariants as tag
use Rattle.drawing.proofs.Lists.{framed}
use Rattle.drawing.proofs.Within.{on_ok}
use Rattle.drawing.proofs.drawing.write_svg.Goals as goal

pub returns-clause-written : goal.returns-clause-written
unfolding drawing_of
returns-clause-written g c =
    let platform = c.args.layout.now in
    let width = width_of platform.ports in
    let height = height_of platform.ports in
    framed tag.Svg (attribute.Namespace ∷ attribute.Size width height ∷ attribute.ViewBox width height ∷ attribute.Font ∷ []) (drawing_inside platform) _ _ _ _ _
    (rw (c.width_of-width.ensures, c.height_of-height.ensures, c.ports-ports.ensures.value) at c.in_ok-open.ensures)
    c.in_ok-write_inside.ensures.written
    c.close.ensures

pub returns-clause-inside : goal.returns-clause-inside
unfolding drawing_of
returns-clause-inside g c =
    let platform = c.args.layout.now in
    let all : AreInside (width_of platform.ports) (height_of platform.ports) (drawing_of platform) = ((tt, (tt, (tt, (tt, tt)))), c.in_ok-write_inside.ensures.inside) in
    on_ok _ _ all
