use Rattle.std.proofs.Common.{refl}
use Rattle.domain.specs.declared.entry.Entry.TheVariants.{Refuse}
use Rattle.domains.specs.Domains.{place_of}
use Rattle.domains.proofs.Emitting.{keeps_either}
use Rattle.domains.proofs.agents.desk.AgentsDesk.refuse.Goals as goal

pub invariant_of-self : goal.invariant_of-self
invariant_of-self c =
    let ds = c.self.inside.domains in
    keeps_either ds c.refuse.new.self c.self.inside.outboxes (Refuse c.args.frame.number) (place_of ds c.args.frame.domain) (λ sent. sent) c.refuse.result (λ n. refl) c.self.invariant c.refuse.ensures.ok c.refuse.ensures.err
