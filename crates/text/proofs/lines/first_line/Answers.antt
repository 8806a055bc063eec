use Rattle.text.proofs.TextLemmas.{cut-none, cut-some}
use Rattle.text.proofs.lines.first_line.Goals as goal

pub returns-in-Some-clause-parts : goal.returns-in-Some-clause-parts
returns-in-Some-clause-parts c = cut-some 10 c.in-Some.at c.args.text.now c.in-Some.ensures.place

pub returns-in-None-clause-parts : goal.returns-in-None-clause-parts
returns-in-None-clause-parts c = cut-none 10 c.args.text.now c.in-None.ensures.place
