use Rattle.link.proofs.Fullness.{full_exact}
use Rattle.link.proofs.egress.Egress.is_full.Goals as goal

pub returns-clause-exact : goal.returns-clause-exact
returns-clause-exact c =
    rw (← c.self.view_is)
    (full_exact 16 c.args.class c.is_full.result c.self.inside.queue.queue.waiting c.has_no_place.ensures.sorted c.is_full.ensures.exact)
