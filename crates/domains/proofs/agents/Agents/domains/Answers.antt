use Rattle.domains.proofs.Settling.{settled}
use Rattle.domains.proofs.agents.Agents.domains.Goals as goal

pub returns-clause-settled : goal.returns-clause-settled
returns-clause-settled c = rw (← c.self.view_is) (settled c.self.inside.domains c.self.inside.outboxes c.self.invariant)
