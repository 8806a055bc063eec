use Rattle.interconnect.proofs.Starting.{few_may_start}
use Rattle.interconnect.proofs.credits.counters_of.Goals as goal

pub returns-clause-start : goal.returns-clause-start
returns-clause-start c = rw (c.credits_of.ensures, c.credits_of-2.ensures, c.credits_of-3.ensures) (few_may_start c.args.limits.now c.requires)
