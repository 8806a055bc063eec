use Rattle.lane.proofs.Sorting.{kept_sorted}
use Rattle.outboxes.proofs.Boxes.{box_took, queue_took}
use Rattle.outboxes.proofs.origin_box.OriginBox.take.Goals as goal

pub invariant_of-self : goal.invariant_of-self
invariant_of-self c =
    let o = c.self.inside.outbox in let left = c.take.new.self in
    kept_sorted c.args.class o.queue left.queue c.take.result c.self.invariant (queue_took c.args.class o left c.take.result c.take.ensures.taken)

pub returns-clause-taken : goal.returns-clause-taken
returns-clause-taken c = rw (← c.self.view_is) (box_took c.self.inside.origin c.args.class c.self.inside.outbox c.take.new.self c.take.result c.self.invariant c.take.ensures.taken)
