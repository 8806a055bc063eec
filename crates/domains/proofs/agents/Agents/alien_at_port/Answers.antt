use Rattle.domains.proofs.Entering.{entered_keeps}
use Rattle.domains.proofs.agents.Agents.alien_at_port.Goals as goal

pub invariant_of-self : goal.invariant_of-self
invariant_of-self c =
    entered_keeps c.self.inside.domains c.enter.new.domains c.self.inside.outboxes c.enter.new.outboxes c.domain-home.result c.args.place c.args.frame c.enter.result c.self.invariant c.enter.ensures.grown c.enter.ensures.places
    c.enter.ensures.ok c.enter.ensures.err
