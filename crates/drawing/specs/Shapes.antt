-- The shapes that figures are made of.
use Rattle.std.specs.Prelude.{ℕ, [], ◌∷◌}
use Rattle.drawing.specs.Elements.{Markup, Element, Words, bare}
use Rattle.drawing.specs.declared.attribute.Area.{Area}
use Rattle.drawing.specs.declared.attribute.Attribute.TheVariants.{At, Covers, Down, Fill, Stroke}
use Rattle.drawing.specs.declared.attribute.Colour.{Colour}
use Rattle.drawing.specs.declared.attribute.Colour.TheVariants.{Black}
use Rattle.drawing.specs.declared.attribute.Point.{Point}
use Rattle.drawing.specs.declared.element.Tag.TheVariants as tag
use Rattle.drawing.specs.declared.label.Label.{Label}

unfoldable pub box_shape : Area → Colour → Markup
box_shape area fill = bare tag.Rect (Covers area ∷ Fill fill ∷ Stroke Black ∷ [])

unfoldable pub line_shape : Point → ℕ → Markup
line_shape from length = bare tag.Path (Down from length ∷ Stroke Black ∷ [])

unfoldable pub label_shape : Point → Label → Markup
label_shape point label = Element tag.Text (At point ∷ []) (Words label)
