use Rattle.interconnect.proofs.Keeping.{sender_there}
use Rattle.interconnect.specs.Kept.{interconnect_view}
use Rattle.interconnect.proofs.interconnect.Interconnect.is_ingress_empty.Goals as goal

pub is_ingress_empty_at-requires : goal.is_ingress_empty_at-requires
is_ingress_empty_at-requires c = sender_there (interconnect_view c.self.inside) c.deref.result.now c.args.direction c.in-Some.end c.self.invariant.kept c.deref.ensures.value c.in-Some.ensures
