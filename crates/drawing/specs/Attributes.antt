-- The attributes of elements, as they are spelled. Each value is made of fixed words, numbers and IDs, so none has a quotation
-- mark, `<` or `&`.
use Rattle.std.specs.Prelude.{ℕ, ◌+◌, ◌*◌, ◌%◌, ◌++◌, List, codes}
use Rattle.std.specs.Fmt.{decimal}
use Rattle.fab_types.specs.Texts.{id_text}
use Rattle.drawing.specs.Controls.{letters_of}
use Rattle.drawing.specs.declared.attribute.Attribute.{Attribute}
use Rattle.drawing.specs.declared.attribute.Attribute.TheVariants as attribute
use Rattle.drawing.specs.declared.attribute.Class.{Class}
use Rattle.drawing.specs.declared.attribute.Class.TheVariants as class
use Rattle.drawing.specs.declared.attribute.Colour.{Colour}
use Rattle.drawing.specs.declared.attribute.Colour.TheVariants as colour

abbrev pub class_name : Class → List ℕ
class_name class.Host = codes "host"
class_name class.Switch = codes "switch"
class_name class.Port = codes "port"
class_name class.Link = codes "link"
class_name class.Function = codes "function"
class_name class.Legend = codes "legend"

-- domains have hues of their own; those of even numbers are darker
abbrev pub colour_text : Colour → List ℕ
colour_text colour.White = codes "#ffffff"
colour_text colour.Grey = codes "#eeeeee"
colour_text colour.Black = codes "#000000"
colour_text colour.Red = codes "#d00000"
colour_text (colour.Domain domain) = codes "hsl(" ++ decimal (domain * 137 % 360) ++ codes ",70%," ++ decimal (78 + domain % 2 * 10) ++ codes "%)"

abbrev pub attribute_text : Attribute → List ℕ
attribute_text attribute.Namespace = codes " xmlns=\"http://www.w3.org/2000/svg\""
attribute_text (attribute.Size width height) = codes " width=\"" ++ decimal width ++ codes "\" height=\"" ++ decimal height ++ codes "\""
attribute_text (attribute.ViewBox width height) = codes " viewBox=\"0 0 " ++ decimal width ++ codes " " ++ decimal height ++ codes "\""
attribute_text attribute.Font = codes " font-family=\"monospace\" font-size=\"12\" text-anchor=\"middle\""
attribute_text attribute.FromPoint = codes " text-anchor=\"start\""
attribute_text (attribute.Class name) = codes " class=\"" ++ class_name name ++ codes "\""
attribute_text (attribute.Id id) = codes " data-id=\"" ++ id_text id ++ codes "\""
attribute_text (attribute.Owner domain) = codes " data-owner=\"" ++ decimal domain ++ codes "\""
attribute_text (attribute.Controls controls) = codes " data-controls=\"" ++ letters_of controls ++ codes "\""
attribute_text (attribute.At point) = codes " x=\"" ++ decimal point.x ++ codes "\" y=\"" ++ decimal point.y ++ codes "\""
attribute_text (attribute.Covers area) =
    (codes " x=\"" ++ decimal area.corner.x ++ codes "\" y=\"" ++ decimal area.corner.y ++ codes "\"")
    ++ (codes " width=\"" ++ decimal area.width ++ codes "\" height=\"" ++ decimal area.height ++ codes "\"")
attribute_text (attribute.Down point length) = codes " d=\"M" ++ decimal point.x ++ codes " " ++ decimal point.y ++ codes "v" ++ decimal length ++ codes "\""
attribute_text (attribute.Fill ink) = codes " fill=\"" ++ colour_text ink ++ codes "\""
attribute_text (attribute.Stroke ink) = codes " stroke=\"" ++ colour_text ink ++ codes "\""
