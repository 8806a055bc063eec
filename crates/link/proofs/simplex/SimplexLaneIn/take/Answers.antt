use Rattle.lane.specs.Queues.{frames_of}
use Rattle.link.proofs.Stepping.{took-kept, took-restores}
use Rattle.link.proofs.simplex.SimplexLaneIn.take.Goals as goal

pub invariant_of-self : goal.invariant_of-self
invariant_of-self c = let s = c.self.inside in record {
  counted = took-kept c.args.class c.release.result s.egress.sender s.ingress.receiver.credits_allocated c.release.new.self.receiver.credits_allocated s.wire (frames_of s.ingress.queue.queue.waiting) (frames_of c.release.new.self.queue.queue.waiting)
      c.self.invariant.counted c.release.ensures.taken c.release.ensures.freed;
  advertised = λ advertised. absurd cc;
}

pub returns-clause-restores : goal.returns-clause-restores
returns-clause-restores c = let s = c.self.inside in
    rw (← c.self.view_is)
    (took-restores c.args.class c.release.result s.egress.sender s.ingress.receiver.credits_allocated (frames_of s.egress.queue.queue.waiting) s.wire (frames_of s.ingress.queue.queue.waiting) (frames_of c.release.new.self.queue.queue.waiting) c.release.new.self.queue.queue
    c.self.invariant.counted c.release.ensures.taken c.release.ensures.restores)
