use Rattle.ordering.proofs.Leaving as law
use Rattle.ordering.proofs.law.takes_the_eligible.Goals as goal

pub returns : goal.returns
returns g c = law.takes_the_eligible _
