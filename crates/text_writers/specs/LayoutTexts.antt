-- The text of a whole platform: its version, and its lines, each of which a line feed ends.
use Rattle.std.specs.Prelude.{ℕ, List, [], ◌∷◌, ◌++◌, codes}
use Rattle.layout_line.specs.declared.lines.LayoutLine.{LayoutLine}
use Rattle.text_writers.specs.LayoutLineTexts.{layout_line_text}
use Rattle.platform.specs.declared.parts.LayoutVersion.{LayoutVersion}
use Rattle.platform.specs.declared.parts.LayoutVersion.TheVariants.{One, Two}
use Rattle.platform.specs.Platform.{Platform}
use Rattle.text_writers.specs.PlatformLines.{lines_of}

abbrev pub version_text : LayoutVersion → List ℕ
version_text One = codes "pciefab 1"
version_text Two = codes "pciefab 2"

abbrev pub lines_text : List LayoutLine → List ℕ
lines_text [] = []
lines_text (line ∷ lines) = layout_line_text line ++ (10 ∷ lines_text lines)

unfoldable pub text_of : Platform → List ℕ
text_of platform = version_text platform.version ++ (10 ∷ lines_text (lines_of platform))
