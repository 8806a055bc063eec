use Rattle.std.proofs.Common.{◌≡◌, ◌++◌, Some, None, ap, sym, subst, ◌∙◌}
use Rattle.std.specs.Prelude.{MatchBool}
use Rattle.credit.specs.Limits.{Allotment}
use Rattle.lane.specs.Lanes.{class_of}
use Rattle.lane.specs.Queues.{frames_of}
use Rattle.link.specs.Channels.{Channel, deliver}
use Rattle.link.specs.Simplexes.{IsCounted, SimplexView, channel}
use Rattle.link.proofs.Fullness.{places_left}
use Rattle.link.proofs.Keeping.{ingress-place}
use Rattle.link.proofs.Moving.{link_of}
use Rattle.link.proofs.Stepping.{delivered, delivered-kept}
use Rattle.link.proofs.simplex.Simplex.deliver.Goals as goal

pub deliver_oldest-requires : goal.deliver_oldest-requires
deliver_oldest-requires c frame oldest = let s = c.self.inside in
    places_left (class_of frame) (frames_of s.ingress.queue.queue.waiting)
    (ingress-place s.egress.sender s.ingress.receiver.credits_allocated s.wire (frames_of s.ingress.queue.queue.waiting) frame c.self.invariant.counted oldest)

pub invariant_of-self : goal.invariant_of-self
invariant_of-self c = let s = c.self.inside in record {
  counted = subst (λ (r : Allotment). IsCounted s.egress.sender r.credits_allocated (c.deliver_oldest.new.wire ++ frames_of c.deliver_oldest.new.ingress.queue.queue.waiting)) (sym c.deliver_oldest.ensures.receiver)
      (delivered-kept c.deliver_oldest.result s.egress.sender s.ingress.receiver.credits_allocated s.wire c.deliver_oldest.new.wire (frames_of s.ingress.queue.queue.waiting) (frames_of c.deliver_oldest.new.ingress.queue.queue.waiting)
      c.self.invariant.counted c.deliver_oldest.ensures.delivered c.deliver_oldest.ensures.rests);
  advertised = λ advertised. ap (λ (r : Allotment). r.credits_allocated) c.deliver_oldest.ensures.receiver ∙ c.self.invariant.advertised advertised;
}

pub returns : goal.returns
returns c = let s = c.self.inside in
    let after : Channel = link_of s.egress.sender (frames_of s.egress.queue.queue.waiting) c.deliver_oldest.new.wire (frames_of c.deliver_oldest.new.ingress.queue.queue.waiting) in
    subst (λ (v : SimplexView). MatchBool c.deliver_oldest.result (deliver (channel v) ≡ Some after) ((deliver (channel v) ≡ None) × (after ≡ channel v))) c.self.view_is
    (delivered c.deliver_oldest.result s.egress.sender (frames_of s.egress.queue.queue.waiting) s.wire c.deliver_oldest.new.wire (frames_of s.ingress.queue.queue.waiting) (frames_of c.deliver_oldest.new.ingress.queue.queue.waiting) c.deliver_oldest.ensures.delivered c.deliver_oldest.ensures.rests)
