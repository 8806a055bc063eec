use Rattle.text_writers.proofs.layouts.After.{text-read}
use Rattle.text_writers.proofs.layouts.InRange.{whole-in-range}
use Rattle.text_writers.proofs.layouts.WholeAdded.{whole-added}
use Rattle.text_writers.proofs.layout_laws.layouts_are_read_back.Goals as goal

pub returns : goal.returns
returns c = λ p is placed has. text-read p (whole-in-range p is has) (whole-added p is placed has) has.root
