use Rattle.interconnect.proofs.Starting.{few}
use Rattle.interconnect.proofs.credits.first_credits.Goals as goal

pub counters_of-requires : goal.counters_of-requires
counters_of-requires c = few c.args.layout.now c.args.lower c.in-Some.limits c.ports.ensures.laws.limits.credits c.in-Some.ensures
