-- What a command is given.
use Rattle.std.specs.Prelude.{◌≡◌, ℕ, List, Ok, Some}
use Rattle.platform.specs.Platform.{Platform}
use Rattle.platform.specs.Share.{Share}
use Rattle.layout.specs.Reading.{reading}
use Rattle.layout.specs.Views.{share_of_owner}
use Rattle.script.specs.Reading as script
use Rattle.script.specs.declared.lines.Line.{Line}

-- the files of these names have the texts of a platform and of a script
pub record AreFiles (holds : List ℕ → List ℕ → Type 0) (layout_name script_name : List ℕ) (platform : Platform) (lines : List Line) : Type 0 where
  pub layout_text : List ℕ
  pub layout_file : holds layout_name layout_text
  pub layout : reading layout_text ≡ Ok platform
  pub script_text : List ℕ
  pub script_file : holds script_name script_text
  pub script : script.reading script_text ≡ Ok lines

-- what `alone` and `journal` are given: such files, and the number of a domain, to which the platform gives this share
pub record AreInputs (holds : List ℕ → List ℕ → Type 0) (layout_name script_name : List ℕ) (number : ℕ) (platform : Platform) (lines : List Line) (share : Share) : Type 0 where
  pub files : AreFiles holds layout_name script_name platform lines
  pub owner : share_of_owner platform number ≡ Some share
