use Rattle.std.proofs.Common.{false, ◌++◌, refl}
use Rattle.lane.specs.Queues.{frames_of}
use Rattle.link.proofs.Stepping.{accepted, accepted-kept, accepted-advertised}
use Rattle.link.proofs.simplex.Simplex.update_fc.Goals as goal

pub invariant_of-self : goal.invariant_of-self
invariant_of-self c = let s = c.self.inside in record {
  counted = accepted-kept c.accept_update.result s.egress.sender c.accept_update.new.egress.sender s.ingress.receiver.credits_allocated c.advert-limits.result (s.wire ++ frames_of s.ingress.queue.queue.waiting) c.self.invariant.counted c.advert-limits.ensures c.accept_update.ensures.advertised c.accept_update.ensures.known;
  advertised = λ advertised. accepted-advertised c.accept_update.result s.egress.sender c.accept_update.new.egress.sender s.ingress.receiver.credits_allocated c.advert-limits.result c.advert-limits.ensures c.accept_update.ensures.advertised c.accept_update.ensures.known;
}

pub returns-then-self : goal.returns-then-self
returns-then-self c = let s = c.self.inside in
    rw (← c.self.view_is)
    (accepted false s.egress.sender s.egress.sender s.ingress.receiver.credits_allocated s.ingress.receiver.credits_allocated (frames_of s.egress.queue.queue.waiting) s.wire (frames_of s.ingress.queue.queue.waiting) c.self.invariant.counted refl
    (λ never. absurd cc) (λ _. (refl, c.self.invariant.advertised c.if-self.true)))

pub returns : goal.returns
returns c = let s = c.self.inside in
    rw (← c.self.view_is, c.accept_update.ensures.queue)
    (accepted c.accept_update.result s.egress.sender c.accept_update.new.egress.sender s.ingress.receiver.credits_allocated c.advert-limits.result (frames_of s.egress.queue.queue.waiting) s.wire (frames_of s.ingress.queue.queue.waiting) c.self.invariant.counted c.advert-limits.ensures c.accept_update.ensures.advertised c.accept_update.ensures.known)
