use Rattle.std.proofs.Common.{sym, subst}
use Rattle.std.specs.Prelude.{IsSome}
use Rattle.lane.specs.Queues.{frames_of}
use Rattle.link.specs.Simplexes.{SimplexView, simplex_restored}
use Rattle.link.proofs.Stepping.{gave-kept}
use Rattle.link.proofs.simplex.SimplexLaneIn.put_back.Goals as goal

pub invariant_of-self : goal.invariant_of-self
invariant_of-self c = let s = c.self.inside in record {
  counted = gave-kept c.args.frame s.egress.sender s.ingress.receiver.credits_allocated c.give_back.new.self.receiver.credits_allocated (frames_of s.egress.queue.queue.waiting) s.wire s.ingress.queue.queue (frames_of c.give_back.new.self.queue.queue.waiting)
      c.self.invariant.counted (subst (λ (v : SimplexView). IsSome (simplex_restored v c.args.frame)) (sym c.self.view_is) c.requires) c.give_back.ensures.waiting c.give_back.ensures.reclaimed;
  advertised = λ advertised. absurd cc;
}
