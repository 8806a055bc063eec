use Rattle.std.proofs.Common.{◌≡◌, ◌∷◌, ◌+◌, Option, Some, sym, ap, ◌∙◌, subst}
use Rattle.std.specs.Prelude.{IsSome}
use Rattle.std.specs.VecDeque.{deque_len, deque_capacity}
use Rattle.port_queue.specs.Arrivals.{Entry, Gap, queue_of}
use Rattle.port_queue.specs.PerClass.{Class, at_class, with_class}
use Rattle.port_queue.specs.Queue.{restored}
use Rattle.port_queue.specs.Outgoing.{VecDeque, Global, Outgoing, total, entries_of, IsReserved}
use Rattle.port_queue.proofs.Heads.{gap_class, put_back_waiting}
use Rattle.port_queue.proofs.Reserving.{reserved_back, fronts_back}
use Rattle.port_queue.proofs.reserved.Outbox.put_back.Goals as goal

some : (g : _) (c : goal.After-self-2-1 g) → IsSome (restored (queue_of (entries_of c.self.inside.queues) c.self.inside.gap) c.args.class c.args.item)
some g c = let P : Outgoing g.row.T.Denot → Type 0 = λ o. IsSome (restored o.queue c.args.class c.args.item) in subst P (sym c.self.view_is) c.requires

first : (g : _) (c : goal.After-self-2-1 g) → c.push_oldest.new.queue.items ≡ record { number = c.in-Some.gap.number; item = c.args.item } ∷ (at_class c.self.inside.queues c.args.class).items
first g c =
    let entry : Entry g.row.T.Denot = record { number = c.in-Some.gap.number; item = c.args.item } in
    c.push_oldest.ensures.items ∙ ap (λ (q : VecDeque (Entry g.row.T.Denot) Global). entry ∷ q.items) c.get_mut.ensures.value

pub invariant_of-self : goal.invariant_of-self
invariant_of-self g c =
    let P : Option Gap → Type 0 = λ x. IsSome (restored (queue_of (entries_of c.self.inside.queues) x) c.args.class c.args.item) in
    let same = gap_class (entries_of c.self.inside.queues) c.in-Some.gap c.args.class c.args.item (subst P c.in-Some.is (some g c)) in
    let Q : Option Gap → Type 0 = λ x. IsReserved c.self.inside.queues c.self.inside.puts c.self.inside.places x in
    let named : Class → Option Gap = λ k. Some (record { class = k; number = c.in-Some.gap.number }) in
    reserved_back c.self.inside.queues c.self.inside.puts c.self.inside.places c.args.class c.push_oldest.new.queue (record { number = c.in-Some.gap.number; item = c.args.item })
    (subst Q (c.in-Some.is ∙ ap named (sym same)) c.self.invariant) (first g c)
    (c.push_oldest.ensures.capacity ∙ ap (λ (q : VecDeque (Entry g.row.T.Denot) Global). deque_capacity q) c.get_mut.ensures.value)
    (c.push_oldest.ensures.len ∙ ap (λ (q : VecDeque (Entry g.row.T.Denot) Global). deque_len q + 1) c.get_mut.ensures.value)

pub returns-clause-waiting : goal.returns-clause-waiting
returns-clause-waiting g c =
    ap (λ (o : Outgoing g.row.T.Denot). restored o.queue c.args.class c.args.item) (sym c.self.view_is)
    ∙ put_back_waiting c.self.inside.places (entries_of (with_class c.self.inside.queues c.args.class c.push_oldest.new.queue)) (entries_of c.self.inside.queues) (total c.self.inside.puts) c.self.inside.gap c.in-Some.gap c.args.class c.args.item c.self.invariant.kept c.in-Some.is (some g c)
    (fronts_back c.self.inside.queues c.args.class c.push_oldest.new.queue (record { number = c.in-Some.gap.number; item = c.args.item }) (first g c))
