use Rattle.std.proofs.Common.{◌≡◌, ◌∷◌, sym, ap, ◌∙◌, Some, refl}
use Rattle.port_queue.specs.Arrivals.{Entry}
use Rattle.port_queue.specs.PerClass.{at_class, with_class}
use Rattle.port_queue.specs.Queue.{taken_of}
use Rattle.port_queue.specs.Outgoing.{VecDeque, Global, Outgoing, total, entries_of}
use Rattle.std.specs.VecDeque.{deque_len, deque_capacity}
use Rattle.port_queue.proofs.Taking.{restores}
use Rattle.port_queue.proofs.Heads.{taken, none_taken}
use Rattle.port_queue.proofs.Reserving.{reserved_sound, reserved_taken, fronts_taken}
use Rattle.port_queue.proofs.reserved.Outbox.take.Goals as goal

pub returns-then-not-is_eligible-clause-taken : goal.returns-then-not-is_eligible-clause-taken
returns-then-not-is_eligible-clause-taken g c = (
  ap (λ (o : Outgoing g.row.T.Denot). taken_of c.args.class o.queue.waiting) (sym c.self.view_is)
      ∙ none_taken (entries_of c.self.inside.queues) (total c.self.inside.puts) c.args.class c.is_eligible.result (reserved_sound c.self.inside.queues c.self.inside.puts c.self.inside.places c.self.inside.gap c.self.invariant) c.is_eligible.ensures c.if-not-is_eligible.true,
  refl,
)

first : (g : _) (c : goal.After-self-2-1 g) → (at_class c.self.inside.queues c.args.class).items ≡ c.in-Some.field-0 ∷ c.pop_oldest.new.queue.items
first g c = ap (λ (q : VecDeque (Entry g.row.T.Denot) Global). q.items) (sym c.get_mut.ensures.value) ∙ c.in-Some.ensures.items

pub invariant_of-self : goal.invariant_of-self
invariant_of-self g c = reserved_taken c.self.inside.queues c.self.inside.puts c.self.inside.places c.self.inside.gap c.args.class c.pop_oldest.new.queue c.in-Some.field-0 c.self.invariant (first g c)
    (c.pop_oldest.ensures.capacity ∙ ap (λ (q : VecDeque (Entry g.row.T.Denot) Global). deque_capacity q) c.get_mut.ensures.value)
    (c.in-Some.ensures.cases ∙ ap (λ (q : VecDeque (Entry g.row.T.Denot) Global). deque_len q) c.get_mut.ensures.value)

pub returns-clause-taken : goal.returns-clause-taken
returns-clause-taken g c =
    ap (λ (o : Outgoing g.row.T.Denot). taken_of c.args.class o.queue.waiting) (sym c.self.view_is)
    ∙ taken (entries_of c.self.inside.queues) (entries_of (with_class c.self.inside.queues c.args.class c.pop_oldest.new.queue)) (total c.self.inside.puts) c.args.class c.in-Some.field-0 c.is_eligible.result (reserved_sound c.self.inside.queues c.self.inside.puts c.self.inside.places c.self.inside.gap c.self.invariant)
    (fronts_taken c.self.inside.queues c.args.class c.pop_oldest.new.queue c.in-Some.field-0 (first g c)) c.is_eligible.ensures c.if-not-is_eligible.false

pub returns-clause-restores : goal.returns-clause-restores
returns-clause-restores g c =
    restores (entries_of c.self.inside.queues) (entries_of (with_class c.self.inside.queues c.args.class c.pop_oldest.new.queue)) (total c.self.inside.puts) c.args.class c.in-Some.field-0 (reserved_sound c.self.inside.queues c.self.inside.puts c.self.inside.places c.self.inside.gap c.self.invariant)
    (fronts_taken c.self.inside.queues c.args.class c.pop_oldest.new.queue c.in-Some.field-0 (first g c))
    ∙ ap (λ (o : Outgoing g.row.T.Denot). Some o.queue.waiting) c.self.view_is
