use Rattle.std.proofs.Common.{Some, None, ap, ◌∙◌}
use Rattle.lane.proofs.Sorting.{head_found}
use Rattle.outboxes.proofs.origin_box.OriginBox.head.Goals as goal

pub returns-in-Some : goal.returns-in-Some
returns-in-Some c = rw (← c.self.view_is)
    (ap Some c.head-in-Some.ensures ∙ head_found c.args.class c.self.inside.outbox.queue.waiting (Some c.in-Some.frame.now) c.self.invariant c.in-Some.ensures)

pub returns-in-None : goal.returns-in-None
returns-in-None c = rw (← c.self.view_is) (head_found c.args.class c.self.inside.outbox.queue.waiting None c.self.invariant c.in-None.ensures)
