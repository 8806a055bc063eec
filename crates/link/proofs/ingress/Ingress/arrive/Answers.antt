use Rattle.std.proofs.Common.{◌≡◌, ◌==◌, false, sym, subst}
use Rattle.lane.specs.Lanes.{class_of}
use Rattle.lane.specs.Queues.{frames_of}
use Rattle.link.specs.Channels.{count_in}
use Rattle.link.specs.Ends.{IngressView}
use Rattle.link.proofs.Fullness.{full_never}
use Rattle.link.proofs.ingress.Ingress.arrive.Goals as goal

pub unreachable-requires : goal.unreachable-requires
unreachable-requires c =
    full_never c.head.result c.args.frame c.self.inside.queue.queue.waiting c.head.ensures c.has_no_place.ensures.sorted (subst (λ (v : IngressView). (count_in (class_of c.args.frame) (frames_of v.queue.queue.waiting) == 127) ≡ false) (sym c.self.view_is) c.requires) (c.has_no_place.ensures.exact.0 c.if-has_no_place.true)
