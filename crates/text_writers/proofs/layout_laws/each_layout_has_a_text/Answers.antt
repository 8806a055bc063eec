use Rattle.text_writers.proofs.layouts.LayoutsKept.{own-text}
use Rattle.text_writers.proofs.layout_laws.each_layout_has_a_text.Goals as goal

pub returns : goal.returns
returns c = own-text
