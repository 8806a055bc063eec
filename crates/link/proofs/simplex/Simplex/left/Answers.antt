use Rattle.std.proofs.Common.{◌++◌, subst}
use Rattle.std.proofs.Common.{◌≤◌}
use Rattle.credit.specs.Kinds.{Class, Kind}
use Rattle.credit.specs.Limits.{at}
use Rattle.lane.specs.Queues.{frames_of}
use Rattle.link.specs.Channels.{IsCovered, count_in}
use Rattle.link.specs.Simplexes.{SimplexView, channel}
use Rattle.link.proofs.Stepping.{covers-left, few-behind, few-left}
use Rattle.link.proofs.simplex.Simplex.left.Goals as goal

pub returns-clause-covered : goal.returns-clause-covered
returns-clause-covered c = let s = c.self.inside in
    subst (λ (v : SimplexView). IsCovered (channel v)) c.self.view_is
    (covers-left s.egress.sender s.ingress.receiver.credits_allocated (frames_of s.egress.queue.queue.waiting) s.wire (frames_of s.ingress.queue.queue.waiting) c.self.invariant.counted)

pub returns-clause-within : goal.returns-clause-within
returns-clause-within c = let s = c.self.inside in
    subst (λ (v : SimplexView). (k : Kind) → at v.left k ≤ at v.start k) c.self.view_is
    (few-left s.egress.sender s.ingress.receiver.credits_allocated (s.wire ++ frames_of s.ingress.queue.queue.waiting) c.self.invariant.counted)

pub returns-clause-places : goal.returns-clause-places
returns-clause-places c = let s = c.self.inside in
    subst (λ (v : SimplexView). (class : Class) → count_in class (v.wire ++ frames_of v.ingress.queue.waiting) ≤ 127) c.self.view_is
    (few-behind s.egress.sender s.ingress.receiver.credits_allocated (s.wire ++ frames_of s.ingress.queue.queue.waiting) c.self.invariant.counted)
