use Rattle.std.proofs.Common.{[], ◌∷◌}
use Rattle.drawing.proofs.Lists.{framed}
use Rattle.drawing.specs.Ports.{port_figure, port_inside}
use Rattle.drawing.specs.declared.element.Tag.TheVariants as tag
use Rattle.drawing.specs.declared.attribute.Attribute.TheVariants as attribute
use Rattle.drawing.specs.declared.attribute.Class.TheVariants as class
use Rattle.drawing.specs.Placing.{port_cell}
use Rattle.drawing.proofs.Within.{cell_lies, on_ok, port_lies}
use Rattle.drawing.proofs.port_figure.write_port.Goals as goal

pub returns-clause-inside : goal.returns-clause-inside
returns-clause-inside g c =
    let inside = rw (c.port_cell-cell.ensures.value, c.ports.ensures.value) at c.port_cell-cell.ensures.inside in
    on_ok _ _ (port_lies _ _ c.args.layout.now c.args.port.now (cell_lies c.args.layout.now.ports (port_cell c.args.layout.now.ports c.args.port.now) inside))

pub returns-clause-written : goal.returns-clause-written
unfolding port_figure
returns-clause-written g c =
    let port = c.args.port.now in
    framed tag.Group (attribute.Class class.Port ∷ attribute.Id port.id ∷ attribute.Owner port.owner ∷ attribute.Controls port.controls ∷ [])
    (port_inside c.args.layout.now (port_cell c.args.layout.now.ports port) port) _ _ _ _ _
    (rw (c.id.ensures, c.get.ensures.value) at c.in_ok-open.ensures)
    (rw (c.port_cell-cell.ensures.value, c.ports.ensures.value) at c.in_ok-write_port_inside.ensures)
    c.close.ensures
