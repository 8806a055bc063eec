-- The first lines of a layout are read.
use Rattle.std.proofs.Common.{◌≡◌, refl, Ok}
use Rattle.text.specs.Text.{cut, decimal, id_at}
use Rattle.layout.specs.Reading.{reading, with_layout_line, with_line}
use Rattle.layout.specs.Rules.{frames_fault, root_fault}
use Rattle.platform.specs.declared.parts.LayoutVersion.{LayoutVersion}
use Rattle.platform.specs.declared.parts.LayoutVersion.TheVariants.{One, Two}
use Rattle.text_writers.specs.Drafts.{start, start_text}

pub start-read : (version : LayoutVersion) → reading (start_text version) ≡ Ok (start version)
unfolding reading with_line with_layout_line cut decimal id_at frames_fault root_fault
start-read One = refl
start-read Two = refl
