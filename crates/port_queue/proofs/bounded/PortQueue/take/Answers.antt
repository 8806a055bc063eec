use Rattle.std.proofs.Common.{◌∷◌, sym, ap, ◌∙◌, Some, List, refl}
use Rattle.port_queue.specs.Arrivals.{Entry}
use Rattle.port_queue.specs.PerClass.{at_class, with_class}
use Rattle.port_queue.specs.Queue.{Queue, taken_of}
use Rattle.port_queue.proofs.Taking.{Fronts, at_class-own, at_class-other, restores}
use Rattle.port_queue.proofs.Keeping.{kept_sound, kept_taken}
use Rattle.port_queue.proofs.Heads.{taken, none_taken}
use Rattle.port_queue.proofs.bounded.PortQueue.take.Goals as goal

pub returns-then-not-is_eligible-clause-taken : goal.returns-then-not-is_eligible-clause-taken
returns-then-not-is_eligible-clause-taken g c = (
  ap (λ (q : Queue g.row.T.Denot). taken_of c.args.class q.waiting) (sym c.self.view_is)
      ∙ none_taken (at_class c.self.inside.queues) c.self.inside.next c.args.class c.is_eligible.result (kept_sound g.row.CAP (at_class c.self.inside.queues) c.self.inside.next c.self.inside.gap c.self.invariant) c.is_eligible.ensures c.if-not-is_eligible.true,
  refl,
)

fronts : (g : _) (c : goal.After-self-2-1 g) → Fronts (at_class c.self.inside.queues) (at_class (with_class c.self.inside.queues c.args.class c.pop_front.new.self)) c.args.class c.in-Some.field-0
fronts g c = record {
  own = sym c.get_mut.ensures.value ∙ (c.in-Some.ensures.items ∙ ap (λ (q : List (Entry g.row.T.Denot)). c.in-Some.field-0 ∷ q) (sym (at_class-own c.self.inside.queues c.args.class c.pop_front.new.self)));
  others = λ d other. sym (at_class-other c.self.inside.queues c.args.class d c.pop_front.new.self other);
}

pub invariant_of-self : goal.invariant_of-self
invariant_of-self g c = kept_taken g.row.CAP (at_class c.self.inside.queues) (at_class (with_class c.self.inside.queues c.args.class c.pop_front.new.self)) c.self.inside.next c.self.inside.gap c.args.class c.in-Some.field-0 c.self.invariant (fronts g c)

pub returns-clause-taken : goal.returns-clause-taken
returns-clause-taken g c =
    ap (λ (q : Queue g.row.T.Denot). taken_of c.args.class q.waiting) (sym c.self.view_is)
    ∙ taken (at_class c.self.inside.queues) (at_class (with_class c.self.inside.queues c.args.class c.pop_front.new.self)) c.self.inside.next c.args.class c.in-Some.field-0 c.is_eligible.result
    (kept_sound g.row.CAP (at_class c.self.inside.queues) c.self.inside.next c.self.inside.gap c.self.invariant) (fronts g c) c.is_eligible.ensures c.if-not-is_eligible.false

pub returns-clause-restores : goal.returns-clause-restores
returns-clause-restores g c =
    restores (at_class c.self.inside.queues) (at_class (with_class c.self.inside.queues c.args.class c.pop_front.new.self)) c.self.inside.next c.args.class c.in-Some.field-0
    (kept_sound g.row.CAP (at_class c.self.inside.queues) c.self.inside.next c.self.inside.gap c.self.invariant) (fronts g c)
    ∙ ap (λ (q : Queue g.row.T.Denot). Some q.waiting) c.self.view_is
