-- The figure of a downstream port, and of the link below it.
use Rattle.std.specs.Prelude.{ℕ, ◌-◌, ◌^◌, Bool, true, false, [], ◌∷◌, unwrap_or, if◌then◌else◌}
use Rattle.fab_types.specs.Controls.{controls_egress, is_set}
use Rattle.fab_types.specs.declared.controls.AcsControl.{AcsControl}
use Rattle.fab_types.specs.declared.controls.Control.{Control}
use Rattle.fab_types.specs.declared.controls.Control.TheVariants.{SourceValidation, TranslationBlocking, RequestRedirect, CompletionRedirect, UpstreamForwarding}
use Rattle.platform.specs.declared.parts.DownstreamPort.{DownstreamPort}
use Rattle.platform.specs.Platform.{Platform}
use Rattle.platform.specs.Tree.{id_below, is_taken}
use Rattle.drawing.specs.Elements.{Markup, Element, Beside, Nothing, Words}
use Rattle.drawing.specs.Figures.{node_area}
use Rattle.drawing.specs.Placing.{point_in, port_cell}
use Rattle.drawing.specs.Shapes.{box_shape, label_shape, line_shape}
use Rattle.drawing.specs.declared.attribute.Area.{Area}
use Rattle.drawing.specs.declared.attribute.Attribute.TheVariants as attribute
use Rattle.drawing.specs.declared.attribute.Class.TheVariants as class
use Rattle.drawing.specs.declared.attribute.Colour.{Colour}
use Rattle.drawing.specs.declared.attribute.Colour.TheVariants as colour
use Rattle.drawing.specs.declared.attribute.Point.{Point}
use Rattle.drawing.specs.declared.element.Tag.TheVariants as tag
use Rattle.drawing.specs.declared.label.Label.{Label}
use Rattle.drawing.specs.declared.label.Label.TheVariants as label
use Rattle.drawing.specs.declared.placing.Cell.{Cell}

-- the box of a port, with a strip in the colour of its domain
abbrev pub strip_area : Cell → Area
strip_area cell = record { corner = point_in cell 8 8; width = 8; height = 72 }

unfoldable pub box_of_port : Cell → DownstreamPort → Markup
box_of_port cell port = Beside (box_shape (node_area cell 8) colour.White) (box_shape (strip_area cell) (colour.Domain port.owner))

-- ---- the letters of its controls: the five that guard it, in red where they are clear, and that of egress control where it is
-- set

abbrev pub ink : Bool → Colour
ink true = colour.Black
ink false = colour.Red

-- a part of a text, in a colour of its own
unfoldable pub span_shape : Colour → Label → Markup
span_shape fill words = Element tag.Span (attribute.Fill fill ∷ []) (Words words)

abbrev pub letter_shape : AcsControl → Control → Markup
letter_shape controls control = span_shape (ink (is_set controls control)) (label.Letter control)

abbrev pub egress_letter : AcsControl → Markup
egress_letter controls = if controls_egress controls then span_shape colour.Black label.Egress else Nothing

unfoldable pub letters_shape : AcsControl → Markup
letters_shape controls =
    Beside (Beside (Beside (Beside (Beside
    (letter_shape controls SourceValidation)
    (letter_shape controls TranslationBlocking))
    (letter_shape controls RequestRedirect))
    (letter_shape controls CompletionRedirect))
    (letter_shape controls UpstreamForwarding))
    (egress_letter controls)

unfoldable pub controls_shape : Point → AcsControl → Markup
controls_shape point controls = Element tag.Text (attribute.At point ∷ []) (letters_shape controls)

-- ---- the vector of a port that controls egress; where none was given all bits are 1

abbrev pub vector_of : DownstreamPort → ℕ
vector_of port = unwrap_or port.egress_vector (2 ^ 32 - 1)

unfoldable pub vector_shape : Point → DownstreamPort → Markup
vector_shape point port = if controls_egress port.controls then label_shape point (label.Vector (vector_of port)) else Nothing

unfoldable pub texts_of_port : Cell → DownstreamPort → Markup
texts_of_port cell port =
    Beside (Beside (Beside
    (label_shape (point_in cell 76 26) (label.Id port.id))
    (controls_shape (point_in cell 76 42) port.controls))
    (label_shape (point_in cell 76 58) (label.Domain port.owner)))
    (vector_shape (point_in cell 76 74) port)

-- ---- the link below it, with its buses and its window; a line, if something stands there

unfoldable pub line_of_link : Platform → Cell → DownstreamPort → Markup
line_of_link platform cell port =
    if is_taken platform.switches platform.functions (id_below port) then line_shape (point_in cell 72 80) 72 else Nothing

unfoldable pub link_inside : Platform → Cell → DownstreamPort → Markup
link_inside platform cell port =
    Beside (Beside (Beside
    (line_of_link platform cell port)
    (label_shape (point_in cell 80 104) (label.Buses port.secondary port.subordinate)))
    (label_shape (point_in cell 80 120) (label.From port.base)))
    (label_shape (point_in cell 80 136) (label.Address port.limit))

unfoldable pub link_figure : Platform → Cell → DownstreamPort → Markup
link_figure platform cell port = Element tag.Group (attribute.Class class.Link ∷ attribute.FromPoint ∷ []) (link_inside platform cell port)

-- ---- all of it

unfoldable pub port_inside : Platform → Cell → DownstreamPort → Markup
port_inside platform cell port =
    Beside (Beside (box_of_port cell port) (texts_of_port cell port)) (link_figure platform cell port)

unfoldable pub port_figure : Platform → DownstreamPort → Markup
port_figure platform port =
    Element tag.Group (attribute.Class class.Port ∷ attribute.Id port.id ∷ attribute.Owner port.owner ∷ attribute.Controls port.controls ∷ [])
    (port_inside platform (port_cell platform.ports port) port)
