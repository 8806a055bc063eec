use Rattle.std.proofs.Common.{Some, None, ap, ◌∙◌}
use Rattle.lane.proofs.Sorting.{head_found}
use Rattle.lane.proofs.queue.FrameQueueLaneIn.head.Goals as goal

pub returns-in-Some-clause-found : goal.returns-in-Some-clause-found
returns-in-Some-clause-found g c = rw (← c.self.view_is)
    (ap Some c.head-in-Some.ensures ∙ head_found c.args.class c.self.inside.queue.waiting (Some c.in-Some.frame.now) c.self.invariant c.in-Some.ensures)

pub returns-in-None-clause-found : goal.returns-in-None-clause-found
returns-in-None-clause-found g c = rw (← c.self.view_is) (head_found c.args.class c.self.inside.queue.waiting None c.self.invariant c.in-None.ensures)
