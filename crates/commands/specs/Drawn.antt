-- What the command `draw` prints.
use Rattle.std.specs.Prelude.{◌≡◌, ℕ, List, Ok}
use Rattle.platform.specs.Platform.{Platform}
use Rattle.layout.specs.Reading.{reading}
use Rattle.drawing.specs.Drawing.{IsDrawing}

-- the file of this name has the text of a platform, and this is its drawing
pub record DrawPrints (holds : List ℕ → List ℕ → Type 0) (layout_name text : List ℕ) : Type 0 where
  pub layout_text : List ℕ
  pub layout_file : holds layout_name layout_text
  pub platform : Platform
  pub layout : reading layout_text ≡ Ok platform
  pub drawing : IsDrawing platform text
