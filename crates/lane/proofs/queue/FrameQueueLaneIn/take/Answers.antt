use Rattle.lane.proofs.Sorting.{took, kept_sorted, took_restores}
use Rattle.lane.proofs.queue.FrameQueueLaneIn.take.Goals as goal

pub invariant_of-self : goal.invariant_of-self
invariant_of-self g c = kept_sorted c.args.class c.self.inside.queue c.take.new.self c.take.result c.self.invariant c.take.ensures.taken

pub returns-clause-taken : goal.returns-clause-taken
returns-clause-taken g c = rw (← c.self.view_is) (took c.args.class c.self.inside.queue c.take.new.self c.take.result c.self.invariant c.take.ensures.taken)

pub returns-clause-restores : goal.returns-clause-restores
returns-clause-restores g c = rw (← c.self.view_is) (took_restores c.args.class c.self.inside.queue c.take.new.self c.take.result c.self.invariant c.take.ensures.taken c.take.ensures.restores)
