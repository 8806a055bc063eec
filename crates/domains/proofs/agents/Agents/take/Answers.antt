use Rattle.std.proofs.Common.{refl}
use Rattle.outboxes.specs.Outboxes.{queue_of, with_queue}
use Rattle.domains.proofs.Keeping.{quiet_keeps}
use Rattle.domains.proofs.Viewing.{taken}
use Rattle.domains.proofs.agents.Agents.take.Goals as goal

pub invariant_of-self : goal.invariant_of-self
invariant_of-self c = rw (c.take.ensures.kept)
    (quiet_keeps (with_queue (queue_of c.take.new.self c.args.origin)) c.self.inside.domains c.self.inside.outboxes c.args.origin (λ b. refl) (λ b. refl) (λ b. refl) c.self.invariant)

pub returns : goal.returns
returns c = rw (← c.self.view_is)
    (record { taken = taken c.args.class c.args.origin c.self.inside.domains c.self.inside.outboxes c.take.new.self c.take.result c.take.ensures.taken c.take.ensures.kept })
