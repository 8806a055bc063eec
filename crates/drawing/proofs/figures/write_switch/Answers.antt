use Rattle.std.proofs.Common.{[], ◌∷◌}
use Rattle.drawing.proofs.Lists.{framed}
use Rattle.drawing.specs.Placing.{switch_width}
use Rattle.drawing.specs.Figures.{switch_figure, switch_inside}
use Rattle.drawing.specs.declared.element.Tag.TheVariants as tag
use Rattle.drawing.specs.declared.attribute.Attribute.TheVariants as attribute
use Rattle.drawing.specs.declared.attribute.Class.TheVariants as class
use Rattle.std.proofs.Common.{arith}
use Rattle.fab_types.specs.Id.{bus_of}
use Rattle.drawing.specs.Placing.{cell_on}
use Rattle.drawing.proofs.Within.{cell_lies, on_ok, switch_lies}
use Rattle.drawing.proofs.figures.write_switch.Goals as goal

pub returns-clause-inside : goal.returns-clause-inside
returns-clause-inside g c =
    let inside = rw (c.cell_on-cell.ensures.value, c.bus.ensures) at c.cell_on-cell.ensures.inside in
    on_ok _ _ (switch_lies _ _ c.args.ports.now c.args.switch.now
    (cell_lies c.args.ports.now (cell_on c.args.ports.now (bus_of c.args.switch.now.id)) inside)
    (omega (arith, inside.0, c.switch_width-width.ensures.inside)))

pub returns-clause-written : goal.returns-clause-written
unfolding switch_figure
returns-clause-written g c =
    let switch = c.args.switch.now in
    framed tag.Group (attribute.Class class.Switch ∷ attribute.Id switch.id ∷ [])
    (switch_inside (cell_on c.args.ports.now (bus_of switch.id)) (switch_width c.args.ports.now switch) switch) _ _ _ _ _
    c.in_ok-open.ensures
    (rw (c.cell_on-cell.ensures.value, c.bus.ensures, c.switch_width-width.ensures.value) at c.in_ok-write_switch_inside.ensures)
    c.close.ensures
