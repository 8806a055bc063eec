use Rattle.domains.proofs.Indexed.{index_stays}
use Rattle.domains.proofs.domains.Domains.submit.Goals as goal

pub invariant_of-self : goal.invariant_of-self
invariant_of-self c =
    index_stays c.self.inside.index c.self.inside.domains.items c.submit_at.new.domains c.deref_mut.result.now c.self.inside.domains.len
    c.submit_at.auto.domains c.deref_mut.ensures.len c.deref_mut.ensures.value c.submit_at.ensures.places c.self.invariant
