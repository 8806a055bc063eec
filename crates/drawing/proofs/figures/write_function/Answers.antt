use Rattle.std.proofs.Common.{[], ◌∷◌}
use Rattle.platform.specs.Tree.{domain_of}
use Rattle.drawing.proofs.Lists.{framed}
use Rattle.drawing.specs.Figures.{function_figure, function_inside}
use Rattle.drawing.specs.declared.element.Tag.TheVariants as tag
use Rattle.drawing.specs.declared.attribute.Attribute.TheVariants as attribute
use Rattle.drawing.specs.declared.attribute.Class.TheVariants as class
use Rattle.fab_types.specs.Id.{bus_of}
use Rattle.drawing.specs.Placing.{cell_on}
use Rattle.drawing.proofs.Within.{cell_lies, function_lies, on_ok}
use Rattle.drawing.proofs.figures.write_function.Goals as goal

pub returns-clause-inside : goal.returns-clause-inside
returns-clause-inside g c =
    let inside = rw (c.cell_on-cell.ensures.value, c.bus.ensures) at c.cell_on-cell.ensures.inside in
    on_ok _ _ (function_lies _ _ c.args.ports.now c.args.function.now (cell_lies c.args.ports.now (cell_on c.args.ports.now (bus_of c.args.function.now.id)) inside))

pub returns-clause-written : goal.returns-clause-written
unfolding function_figure
returns-clause-written g c =
    let function = c.args.function.now in
    let domain = domain_of c.args.ports.now function.id in
    framed tag.Group (attribute.Class class.Function ∷ attribute.Id function.id ∷ attribute.Owner domain ∷ [])
    (function_inside (cell_on c.args.ports.now (bus_of function.id)) function domain) _ _ _ _ _
    (rw c.domain_of-domain.ensures at c.in_ok-open.ensures)
    (rw (c.cell_on-cell.ensures.value, c.bus.ensures, c.domain_of-domain.ensures) at c.in_ok-write_function_inside.ensures)
    c.close.ensures
