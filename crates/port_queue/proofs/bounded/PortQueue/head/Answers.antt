use Rattle.std.proofs.Common.{sym, ap, ◌∙◌, slice_get}
use Rattle.port_queue.specs.PerClass.{at_class}
use Rattle.port_queue.specs.Queue.{Queue, head_of}
use Rattle.port_queue.proofs.Keeping.{kept_sound}
use Rattle.port_queue.proofs.Heads.{head_found, head_none, not_without_front}
use Rattle.port_queue.proofs.bounded.PortQueue.head.Goals as goal

pub returns-then-not-is_eligible : goal.returns-then-not-is_eligible
returns-then-not-is_eligible g c =
    head_none (at_class c.self.inside.queues) c.self.inside.next c.args.class c.is_eligible.result (kept_sound g.row.CAP (at_class c.self.inside.queues) c.self.inside.next c.self.inside.gap c.self.invariant) c.is_eligible.ensures c.if-not-is_eligible.true
    ∙ ap (λ (q : Queue g.row.T.Denot). head_of c.args.class q.waiting) c.self.view_is

pub returns-in-Some : goal.returns-in-Some
returns-in-Some g c =
    head_found (at_class c.self.inside.queues) c.self.inside.next c.args.class c.in-Some.entry.now c.is_eligible.result (kept_sound g.row.CAP (at_class c.self.inside.queues) c.self.inside.next c.self.inside.gap c.self.invariant) c.is_eligible.ensures c.if-not-is_eligible.false
    (ap (λ xs. slice_get xs 0) (sym c.get.ensures) ∙ sym c.in-Some.ensures)
    ∙ ap (λ (q : Queue g.row.T.Denot). head_of c.args.class q.waiting) c.self.view_is

pub returns-in-None : goal.returns-in-None
returns-in-None g c =
    absurd (not_without_front (at_class c.self.inside.queues) c.args.class c.is_eligible.result c.is_eligible.ensures c.if-not-is_eligible.false
    (ap (λ xs. slice_get xs 0) (sym c.get.ensures) ∙ sym c.in-None.ensures))
