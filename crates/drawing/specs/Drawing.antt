-- The drawing of a layout, and what holds of it.
use Rattle.std.specs.Prelude.{◌≡◌, ℕ, List, [], ◌∷◌, map}
use Rattle.platform.specs.declared.parts.DownstreamPort.{DownstreamPort}
use Rattle.platform.specs.declared.parts.EndpointFunction.{EndpointFunction}
use Rattle.platform.specs.declared.parts.Switch.{Switch}
use Rattle.platform.specs.Platform.{Platform}
use Rattle.platform.specs.Tree.{domain_of}
use Rattle.drawing.specs.Elements.{AreInside, Markup, Element, Beside, bare, each, elements_of, text_of}
use Rattle.drawing.specs.Figures.{function_figure, host_figure, switch_figure}
use Rattle.drawing.specs.Legend.{legend_figure}
use Rattle.drawing.specs.Placing.{height_of, width_of}
use Rattle.drawing.specs.Ports.{port_figure}
use Rattle.drawing.specs.declared.attribute.Area.{Area}
use Rattle.drawing.specs.declared.attribute.Attribute.{Attribute}
use Rattle.drawing.specs.declared.attribute.Attribute.TheVariants as attribute
use Rattle.drawing.specs.declared.attribute.Class.TheVariants as class
use Rattle.drawing.specs.declared.attribute.Colour.TheVariants as colour
use Rattle.drawing.specs.declared.element.Tag.TheVariants as tag

abbrev pub whole : List DownstreamPort → Area
whole ports = record { corner = record { x = 0; y = 0 }; width = width_of ports; height = height_of ports }

unfoldable pub background : List DownstreamPort → Markup
background ports = bare tag.Rect (attribute.Covers (whole ports) ∷ attribute.Fill colour.White ∷ [])

-- switches stand behind their ports
unfoldable pub drawing_inside : Platform → Markup
drawing_inside platform =
    Beside (Beside (Beside (Beside (Beside
    (background platform.ports)
    host_figure)
    (each (switch_figure platform.ports) platform.switches))
    (each (port_figure platform) platform.ports))
    (each (function_figure platform.ports) platform.functions))
    (legend_figure platform.ports)

-- the document
unfoldable pub drawing_of : Platform → Markup
drawing_of platform =
    let width = width_of platform.ports in
    let height = height_of platform.ports in
    Element tag.Svg (attribute.Namespace ∷ attribute.Size width height ∷ attribute.ViewBox width height ∷ attribute.Font ∷ [])
    (drawing_inside platform)

-- ---- what an element says of what it shows

abbrev pub switch_attributes : Switch → List Attribute
switch_attributes switch = attribute.Id switch.id ∷ []

abbrev pub port_attributes : DownstreamPort → List Attribute
port_attributes port = attribute.Id port.id ∷ attribute.Owner port.owner ∷ attribute.Controls port.controls ∷ []

abbrev pub function_attributes : List DownstreamPort → EndpointFunction → List Attribute
function_attributes ports function = attribute.Id function.id ∷ attribute.Owner (domain_of ports function.id) ∷ []

-- The text is that of a tree of elements. In it each switch, each port and each function of the platform has one element of its
-- class, in the order of the layout's lines, with its ID, its owner and the letters of its controls; and all points, lines
-- and rectangles lie within the width and the height that the document has.
pub record IsDrawing (platform : Platform) (text : List ℕ) : Type 0 where
  pub spelled : text ≡ text_of (drawing_of platform)
  pub switches : elements_of class.Switch (drawing_of platform) ≡ map switch_attributes platform.switches
  pub ports : elements_of class.Port (drawing_of platform) ≡ map port_attributes platform.ports
  pub functions : elements_of class.Function (drawing_of platform) ≡ map (function_attributes platform.ports) platform.functions
  pub inside : AreInside (width_of platform.ports) (height_of platform.ports) (drawing_of platform)
