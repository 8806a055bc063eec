use Rattle.fabric_core.specs.World.{world_of}
use Rattle.fabric_core.proofs.runs.Comparing.{same_journals}
use Rattle.fabric_core.proofs.comparison.compare_runs.Goals as goal

pub returns-then-has_same_journal-clause-compared : goal.returns-then-has_same_journal-clause-compared
returns-then-has_same_journal-clause-compared c =
    same_journals c.args.domain (world_of c.args.layout.now) c.in-Ok.one c.in-Ok-ran.other c.args.events.now c.args.others.now c.in-Ok.ensures.run c.in-Ok-ran.ensures.run c.in-Ok.ensures.alone c.in-Ok-ran.ensures.alone
    (c.has_same_journal.ensures.0 c.if-has_same_journal.true)
