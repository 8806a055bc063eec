use Rattle.std.proofs.Common.{sym, ◌∙◌}
use Rattle.lane.specs.Queues.{frames_of}
use Rattle.link.proofs.Keeping.{wire-place}
use Rattle.link.proofs.Stepping.{sent, sent-kept, sent-advertised}
use Rattle.link.proofs.simplex.Simplex.send.Goals as goal

pub transmit-requires : goal.transmit-requires
transmit-requires c cost room = let s = c.self.inside in
    wire-place s.egress.sender s.ingress.receiver.credits_allocated s.wire (frames_of s.ingress.queue.queue.waiting) cost c.self.invariant.counted room

pub invariant_of-self : goal.invariant_of-self
invariant_of-self c = let s = c.self.inside in record {
  counted = sent-kept c.args.class c.transmit.result s.egress.sender c.transmit.new.egress.sender s.ingress.receiver.credits_allocated (frames_of s.egress.queue.queue.waiting) (frames_of c.transmit.new.egress.queue.queue.waiting) s.wire c.transmit.new.wire (frames_of s.ingress.queue.queue.waiting)
      c.self.invariant.counted c.transmit.ensures.sent c.transmit.ensures.rests;
  advertised = λ advertised. c.self.invariant.advertised advertised ∙ sym (sent-advertised c.args.class c.transmit.result s.egress.sender c.transmit.new.egress.sender (frames_of s.egress.queue.queue.waiting) (frames_of c.transmit.new.egress.queue.queue.waiting) s.wire c.transmit.new.wire
      c.transmit.ensures.sent c.transmit.ensures.rests);
}

pub returns : goal.returns
returns c = let s = c.self.inside in
    rw (← c.self.view_is)
    (sent c.args.class c.transmit.result s.egress.sender c.transmit.new.egress.sender s.ingress.receiver.credits_allocated (frames_of s.egress.queue.queue.waiting) (frames_of c.transmit.new.egress.queue.queue.waiting) s.wire c.transmit.new.wire (frames_of s.ingress.queue.queue.waiting)
    c.self.invariant.counted c.transmit.ensures.sent c.transmit.ensures.stuck c.transmit.ensures.rests)
