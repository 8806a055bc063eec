use Rattle.text_writers.proofs.layouts.LayoutsKept.{rules-kept}
use Rattle.text_writers.proofs.layout_laws.layouts_keep_the_rules.Goals as goal

pub returns : goal.returns
returns c = rules-kept
