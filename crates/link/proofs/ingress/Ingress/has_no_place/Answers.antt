use Rattle.link.proofs.Fullness.{place_exact}
use Rattle.link.proofs.ingress.Ingress.has_no_place.Goals as goal

pub returns : goal.returns
returns c =
    rw (← c.self.view_is)
    (place_exact 127 c.args.class c.has_no_place.result c.self.inside.queue.queue.waiting c.has_no_place.ensures.sorted c.has_no_place.ensures.exact)
