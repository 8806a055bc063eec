-- The figures of the host, of switches and of functions.
use Rattle.std.specs.Prelude.{ℕ, List, [], ◌∷◌}
use Rattle.fab_types.specs.Id.{bus_of}
use Rattle.platform.specs.declared.parts.DownstreamPort.{DownstreamPort}
use Rattle.platform.specs.declared.parts.EndpointFunction.{EndpointFunction}
use Rattle.platform.specs.declared.parts.Switch.{Switch}
use Rattle.platform.specs.Tree.{domain_of, internal_bus}
use Rattle.drawing.specs.Elements.{Markup, Element, Beside}
use Rattle.drawing.specs.Placing.{cell_on, point_in, switch_width}
use Rattle.drawing.specs.Shapes.{box_shape, label_shape, line_shape}
use Rattle.drawing.specs.declared.attribute.Area.{Area}
use Rattle.drawing.specs.declared.attribute.Attribute.TheVariants as attribute
use Rattle.drawing.specs.declared.attribute.Class.TheVariants as class
use Rattle.drawing.specs.declared.attribute.Colour.TheVariants as colour
use Rattle.drawing.specs.declared.attribute.Point.{Point}
use Rattle.drawing.specs.declared.element.Tag.TheVariants as tag
use Rattle.drawing.specs.declared.label.Label.TheVariants as label
use Rattle.drawing.specs.declared.placing.Cell.{Cell}

abbrev pub point_at : ℕ → ℕ → Point
point_at x y = record { x = x; y = y }

-- ---- the host, and the link to the top switch

abbrev pub host_area : Area
host_area = record { corner = point_at 270 16; width = 128; height = 32 }

unfoldable pub host_inside : Markup
host_inside = Beside (Beside (box_shape host_area colour.White) (label_shape (point_at 334 36) label.Host)) (line_shape (point_at 334 48) 48)

unfoldable pub host_figure : Markup
host_figure = Element tag.Group (attribute.Class class.Host ∷ []) host_inside

-- ---- switches

abbrev pub switch_area : Cell → ℕ → Area
switch_area cell width = record { corner = point_in cell 0 0; width = width; height = 88 }

unfoldable pub switch_inside : Cell → ℕ → Switch → Markup
switch_inside cell width switch =
    Beside (Beside (Beside
    (box_shape (switch_area cell width) colour.Grey)
    (label_shape (point_in cell 72 26) label.Switch))
    (label_shape (point_in cell 72 42) (label.Id switch.id)))
    (label_shape (point_in cell 72 58) (label.Bus (internal_bus switch)))

unfoldable pub switch_figure : List DownstreamPort → Switch → Markup
switch_figure ports switch =
    Element tag.Group (attribute.Class class.Switch ∷ attribute.Id switch.id ∷ [])
    (switch_inside (cell_on ports (bus_of switch.id)) (switch_width ports switch) switch)

-- ---- functions, in the colour of their domain

-- what a port or a function covers
abbrev pub node_area : Cell → ℕ → Area
node_area cell down = record { corner = point_in cell 8 down; width = 128; height = 72 }

unfoldable pub function_inside : Cell → EndpointFunction → ℕ → Markup
function_inside cell function domain =
    Beside (Beside (Beside (Beside
    (box_shape (node_area cell 0) (colour.Domain domain))
    (label_shape (point_in cell 72 18) label.Function))
    (label_shape (point_in cell 72 34) (label.Id function.id)))
    (label_shape (point_in cell 72 50) (label.Domain domain)))
    (label_shape (point_in cell 72 66) (label.Address function.bar))

unfoldable pub function_figure : List DownstreamPort → EndpointFunction → Markup
function_figure ports function =
    Element tag.Group (attribute.Class class.Function ∷ attribute.Id function.id ∷ attribute.Owner (domain_of ports function.id) ∷ [])
    (function_inside (cell_on ports (bus_of function.id)) function (domain_of ports function.id))
