use Rattle.std.proofs.Common.{true, refl, ◌∙◌}
use Rattle.lane.specs.Queues.{frames_of}
use Rattle.link.proofs.Stepping.{knows-advertised}
use Rattle.link.proofs.simplex.Simplex.has_limits.Goals as goal

pub returns-then-self : goal.returns-then-self
returns-then-self c = let s = c.self.inside in
    rw (← c.self.view_is)
    (c.if-self.true ∙ knows-advertised true s.egress.sender s.ingress.receiver.credits_allocated s.ingress.receiver.credits_allocated (frames_of s.egress.queue.queue.waiting) s.wire (frames_of s.ingress.queue.queue.waiting) c.self.invariant.counted refl (c.self.invariant.advertised c.if-self.true))

pub returns-else-self : goal.returns-else-self
returns-else-self c = let s = c.self.inside in
    rw (← c.self.view_is)
    (knows-advertised c.knows.result s.egress.sender s.ingress.receiver.credits_allocated c.advert.result (frames_of s.egress.queue.queue.waiting) s.wire (frames_of s.ingress.queue.queue.waiting) c.self.invariant.counted c.advert.ensures c.knows.ensures)
