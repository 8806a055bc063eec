-- Elements of XML, their text (XML 1.0, 3.1), and what is said of all of them.
use Rattle.std.specs.Prelude.{ℕ, ◌+◌, ◌==◌, ◌≤◌, ◌++◌, ⊤, List, [], ◌∷◌, codes, if◌then◌else◌}
use Rattle.std.specs.List.{flat_map}
use Rattle.drawing.specs.Attributes.{attribute_text}
use Rattle.drawing.specs.Labels.{label_text}
use Rattle.drawing.specs.declared.attribute.Attribute.{Attribute}
use Rattle.drawing.specs.declared.attribute.Attribute.TheVariants as attribute
use Rattle.drawing.specs.declared.attribute.Class.{Class}
use Rattle.drawing.specs.declared.attribute.Class.TheVariants as class
use Rattle.drawing.specs.declared.element.Tag.{Tag}
use Rattle.drawing.specs.declared.element.Tag.TheVariants as tag
use Rattle.drawing.specs.declared.label.Label.{Label}

-- what stands inside an element: nothing, words, an element with its own content, or one after another
pub data Markup : Type 0 where
  Nothing : Markup
  Words : Label → Markup
  Element : Tag → List Attribute → Markup → Markup
  Beside : Markup → Markup → Markup

abbrev pub tag_name : Tag → List ℕ
tag_name tag.Svg = codes "svg"
tag_name tag.Group = codes "g"
tag_name tag.Rect = codes "rect"
tag_name tag.Path = codes "path"
tag_name tag.Text = codes "text"
tag_name tag.Span = codes "tspan"

-- `<g class="port">`
abbrev pub start_tag : Tag → List Attribute → List ℕ
start_tag name attributes = codes "<" ++ tag_name name ++ flat_map attribute_text attributes ++ codes ">"

-- `</g>`
abbrev pub end_tag : Tag → List ℕ
end_tag name = codes "</" ++ tag_name name ++ codes ">" ++ codes "\n"

-- each element that begins ends, behind all that stands inside it
abbrev pub text_of : Markup → List ℕ
text_of Nothing = []
text_of (Words label) = label_text label
text_of (Element name attributes inside) = start_tag name attributes ++ text_of inside ++ end_tag name
text_of (Beside one other) = text_of one ++ text_of other

abbrev pub bare : Tag → List Attribute → Markup
bare name attributes = Element name attributes Nothing

-- one after another of each of these
abbrev pub each : {X : Type 0} → (X → Markup) → List X → Markup
each f [] = Nothing
each f (x ∷ xs) = Beside (f x) (each f xs)

-- ---- what lies inside a drawing of this width and height

abbrev pub IsInside : ℕ → ℕ → Attribute → Type 0
IsInside width height (attribute.At point) = (point.x ≤ width) × (point.y ≤ height)
IsInside width height (attribute.Covers area) = (area.corner.x + area.width ≤ width) × (area.corner.y + area.height ≤ height)
IsInside width height (attribute.Down point length) = (point.x ≤ width) × (point.y + length ≤ height)
IsInside width height _ = ⊤

abbrev pub EachIsInside : ℕ → ℕ → List Attribute → Type 0
EachIsInside width height [] = ⊤
EachIsInside width height (one ∷ rest) = IsInside width height one × EachIsInside width height rest

abbrev pub AreInside : ℕ → ℕ → Markup → Type 0
AreInside width height Nothing = ⊤
AreInside width height (Words label) = ⊤
AreInside width height (Element name attributes inside) = EachIsInside width height attributes × AreInside width height inside
AreInside width height (Beside one other) = AreInside width height one × AreInside width height other

-- ---- the elements of a class, in their order, by their further attributes

abbrev pub class_number : Class → ℕ
class_number class.Host = 0
class_number class.Switch = 1
class_number class.Port = 2
class_number class.Link = 3
class_number class.Function = 4
class_number class.Legend = 5

abbrev pub of_class : Class → List Attribute → List (List Attribute)
of_class wanted (attribute.Class one ∷ rest) = if class_number one == class_number wanted then rest ∷ [] else []
of_class wanted attributes = []

abbrev pub elements_of : Class → Markup → List (List Attribute)
elements_of wanted Nothing = []
elements_of wanted (Words label) = []
elements_of wanted (Element name attributes inside) = of_class wanted attributes ++ elements_of wanted inside
elements_of wanted (Beside one other) = elements_of wanted one ++ elements_of wanted other
