use Rattle.domains.proofs.Settling.{settled}
use Rattle.domains.proofs.AgentsStarting.{kept_at_start, start_seen}
use Rattle.domains.specs.Domains.{starting_domains}
use Rattle.outboxes.specs.Outboxes.{boxes_of}
use Rattle.domains.proofs.agents.Agents.new.Goals as goal

pub invariant_of-result : goal.invariant_of-result
invariant_of-result c = rw (c.in_ok-new.ensures, c.in_ok-new-2.ensures) (kept_at_start c.args.layout.now c.ports.ensures.laws)

pub returns-clause-start : goal.returns-clause-start
returns-clause-start c = rw (c.in_ok-new.ensures, c.in_ok-new-2.ensures) (start_seen c.args.layout.now)

pub returns-clause-settled : goal.returns-clause-settled
returns-clause-settled c = rw (c.in_ok-new.ensures, c.in_ok-new-2.ensures) (settled (starting_domains c.args.layout.now) (boxes_of c.args.layout.now) (kept_at_start c.args.layout.now c.ports.ensures.laws))
