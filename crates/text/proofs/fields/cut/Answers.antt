use Rattle.text.proofs.TextLemmas.{cut-some, cut-none}
use Rattle.text.proofs.fields.cut.Goals as goal

pub returns-in-Some-clause-parts : goal.returns-in-Some-clause-parts
returns-in-Some-clause-parts c = cut-some c.args.byte c.in-Some.at c.args.text.now c.in-Some.ensures.place

pub returns-in-None-clause-parts : goal.returns-in-None-clause-parts
returns-in-None-clause-parts c = cut-none c.args.byte c.args.text.now c.in-None.ensures.place
