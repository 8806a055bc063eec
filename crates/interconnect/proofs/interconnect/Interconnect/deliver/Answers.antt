use Rattle.interconnect.proofs.Keeping.{sender_there}
use Rattle.interconnect.specs.Kept.{interconnect_view}
use Rattle.interconnect.proofs.interconnect.Interconnect.deliver.Goals as goal

pub deliver_at-requires : goal.deliver_at-requires
deliver_at-requires c = sender_there (interconnect_view c.self.inside) c.deref_mut.result.now c.args.direction c.in-Some.end c.self.invariant.kept c.deref_mut.ensures.value c.in-Some.ensures
