use Rattle.std.proofs.Common.{◌∙◌}
use Rattle.lane.proofs.Sorting.{eligible_classes_found}
use Rattle.lane.proofs.queue.FrameQueue.eligible_classes.Goals as goal

pub returns : goal.returns
returns g c = λ class. rw (← c.self.view_is) (c.eligible_classes.ensures class ∙ eligible_classes_found class c.self.inside.queue.waiting c.self.invariant)
