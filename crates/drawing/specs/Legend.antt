-- The legend: the letters of controls, and the colours of domains.
use Rattle.std.specs.Prelude.{ℕ, zero, suc, ◌+◌, ◌-◌, ◌*◌, List, [], ◌∷◌, if◌then◌else◌}
use Rattle.fab_types.specs.declared.controls.Control.{Control}
use Rattle.fab_types.specs.declared.controls.Control.TheVariants.{SourceValidation, TranslationBlocking, RequestRedirect, CompletionRedirect, UpstreamForwarding}
use Rattle.platform.specs.declared.parts.DownstreamPort.{DownstreamPort}
use Rattle.drawing.specs.Elements.{Markup, Element, Beside, Nothing}
use Rattle.drawing.specs.Placing.{domains_before, legend_point, owns}
use Rattle.drawing.specs.Shapes.{box_shape, label_shape}
use Rattle.drawing.specs.declared.attribute.Area.{Area}
use Rattle.drawing.specs.declared.attribute.Attribute.TheVariants as attribute
use Rattle.drawing.specs.declared.attribute.Class.TheVariants as class
use Rattle.drawing.specs.declared.attribute.Colour.TheVariants as colour
use Rattle.drawing.specs.declared.element.Tag.TheVariants as tag
use Rattle.drawing.specs.declared.label.Label.TheVariants as label

unfoldable pub named_shape : ℕ → Control → Markup
named_shape line control = label_shape (legend_point line) (label.Named control)

-- the five controls that guard a port
unfoldable pub controls_shapes : Markup
controls_shapes =
    Beside (Beside (Beside (Beside (Beside
    (label_shape (legend_point 0) label.Controls)
    (named_shape 1 SourceValidation))
    (named_shape 2 TranslationBlocking))
    (named_shape 3 RequestRedirect))
    (named_shape 4 CompletionRedirect))
    (named_shape 5 UpstreamForwarding)

unfoldable pub egress_shapes : Markup
egress_shapes = Beside (label_shape (legend_point 6) label.EgressNamed) (label_shape (legend_point 7) label.Vectors)

-- a letter in red is of a control that is clear
unfoldable pub clear_shape : Markup
clear_shape = Element tag.Group (attribute.Fill colour.Red ∷ []) (label_shape (legend_point 8) label.Clear)

-- ---- a line for each domain that owns a port, by rising number

-- a square in its colour before its number
abbrev pub square : ℕ → Area
square line = record { corner = record { x = 16; y = 32 + 18 * line - 11 }; width = 12; height = 12 }

unfoldable pub domain_shape : ℕ → ℕ → Markup
domain_shape line number = Beside (box_shape (square line) (colour.Domain number)) (label_shape (record { x = 34; y = 32 + 18 * line }) (label.Domain number))

unfoldable pub owner_shape : List DownstreamPort → ℕ → Markup
owner_shape ports number = if owns ports number then domain_shape (10 + domains_before ports number) number else Nothing

-- those of the numbers below this one
unfoldable pub domain_shapes : List DownstreamPort → ℕ → Markup
domain_shapes ports zero = Nothing
domain_shapes ports (suc n) = Beside (domain_shapes ports n) (owner_shape ports n)

unfoldable pub legend_inside : List DownstreamPort → Markup
legend_inside ports =
    Beside (Beside (Beside (Beside controls_shapes egress_shapes) clear_shape) (label_shape (legend_point 9) label.Domains)) (domain_shapes ports 32)

unfoldable pub legend_figure : List DownstreamPort → Markup
legend_figure ports = Element tag.Group (attribute.Class class.Legend ∷ attribute.FromPoint ∷ []) (legend_inside ports)
