use Rattle.std.proofs.Common.{None, refl}
use Rattle.domain.specs.declared.entry.Entry.TheVariants.{Deliver}
use Rattle.domains.specs.Domains.{place_of}
use Rattle.domains.proofs.Emitting.{keeps_either}
use Rattle.domains.proofs.agents.Agents.complete.Goals as goal

pub invariant_of-self : goal.invariant_of-self
invariant_of-self c =
    let ds = c.self.inside.domains in
    keeps_either ds c.complete.new.self c.self.inside.outboxes (Deliver c.args.frame.number) (place_of ds c.args.frame.domain) (λ given. None) c.complete.result (λ n. refl) c.self.invariant c.complete.ensures.ok c.complete.ensures.err
