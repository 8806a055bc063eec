use Rattle.std.proofs.Common.{◌≡◌, Some, subst}
use Rattle.fab_types.specs.declared.head.Head.{Head}
use Rattle.port_queue.specs.Queue.{restored}
use Rattle.lane.proofs.Sorting.{restored_sorted}
use Rattle.lane.proofs.queue.FrameQueueLaneIn.put_back.Goals as goal

pub invariant_of-self : goal.invariant_of-self
invariant_of-self g c = let q = c.self.inside.queue in
    restored_sorted q c.args.frame c.put_back.new.self.waiting c.self.invariant (subst (λ (h : Head). restored q h.cost.class c.args.frame ≡ Some c.put_back.new.self.waiting) c.head.ensures c.put_back.ensures.waiting)
