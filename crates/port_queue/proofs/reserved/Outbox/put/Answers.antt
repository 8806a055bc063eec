use Rattle.std.proofs.Common.{◌≡◌, ◌∷◌, ◌++◌, [], ◌+◌, ◌<◌, ℕ, List, sym, ap, ◌∙◌, subst, refl, arith, None}
use Rattle.std.specs.VecDeque.{deque_len, deque_capacity}
use Rattle.port_queue.specs.Arrivals.{Entry, waiting_of}
use Rattle.port_queue.specs.PerClass.{Class, at_class, with_class}
use Rattle.port_queue.specs.Outgoing.{VecDeque, Global, Outgoing, total, entries_of, IsReserved}
use Rattle.port_queue.proofs.Keeping.{waiting-added}
use Rattle.port_queue.proofs.Reserving.{reserved_sound, reserved_length, reserved_added, adds_put}
use Rattle.port_queue.proofs.reserved.Outbox.put.Goals as goal

pub overflow_add-number : goal.overflow_add-number
overflow_add-number g c = (let p = c.self.invariant.within Class.Posted in let n = c.self.invariant.within Class.NonPosted in let small = c.self.invariant.kept.small in omega arith)

pub overflow_add-number-2 : goal.overflow_add-number-2
overflow_add-number-2 g c = (let p = c.self.invariant.within Class.Posted in let n = c.self.invariant.within Class.NonPosted in let k = c.self.invariant.within Class.Completion in let small = c.self.invariant.kept.small in omega arith)

pub push_back_reserved-requires : goal.push_back_reserved-requires
push_back_reserved-requires g c =
    let P : Outgoing g.row.T.Denot → Type 0 = λ o. at_class o.puts c.args.class < o.places in
    let room : at_class c.self.inside.puts c.args.class < c.self.inside.places = subst P (sym c.self.view_is) c.requires in
    let len = ap (λ (q : VecDeque (Entry g.row.T.Denot) Global). deque_len q) c.get_mut-2.ensures.value in
    let capacity = ap (λ (q : VecDeque (Entry g.row.T.Denot) Global). deque_capacity q) c.get_mut-2.ensures.value in
    let some = reserved_length c.self.inside.queues c.self.inside.puts c.self.inside.places c.self.inside.gap c.self.invariant c.args.class in
    let reserved = (c.self.invariant.roomy c.args.class).reserved in
    omega arith

last : (g : _) (c : goal.After-self-3-1 g) → c.push_back_reserved.new.self.items ≡ (at_class c.self.inside.queues c.args.class).items ++ record { number = total c.self.inside.puts; item = c.args.item } ∷ []
last g c =
    let entry : Entry g.row.T.Denot = record { number = total c.self.inside.puts; item = c.args.item } in
    c.push_back_reserved.ensures.items ∙ ap (λ (q : VecDeque (Entry g.row.T.Denot) Global). q.items ++ entry ∷ []) c.get_mut-2.ensures.value

pub invariant_of-self : goal.invariant_of-self
invariant_of-self g c =
    let P : Outgoing g.row.T.Denot → Type 0 = λ o. at_class o.puts c.args.class < o.places in
    let entry : Entry g.row.T.Denot = record { number = total c.self.inside.puts; item = c.args.item } in
    let R : ℕ → Type 0 = λ n. IsReserved (with_class c.self.inside.queues c.args.class c.push_back_reserved.new.self) (with_class c.self.inside.puts c.args.class (n + 1)) c.self.inside.places None in
    subst R (sym c.get.ensures) (reserved_added c.self.inside.queues c.self.inside.puts c.self.inside.places c.self.inside.gap c.args.class c.push_back_reserved.new.self entry c.self.invariant (last g c) refl
    (c.push_back_reserved.ensures.capacity ∙ ap (λ (q : VecDeque (Entry g.row.T.Denot) Global). deque_capacity q) c.get_mut-2.ensures.value)
    (c.push_back_reserved.ensures.len ∙ ap (λ (q : VecDeque (Entry g.row.T.Denot) Global). deque_len q + 1) c.get_mut-2.ensures.value)
    (subst P (sym c.self.view_is) c.requires))

pub returns : goal.returns
returns g c =
    let entry : Entry g.row.T.Denot = record { number = total c.self.inside.puts; item = c.args.item } in
    let waits : List (Class × g.row.T.Denot) → Outgoing g.row.T.Denot = λ ws. record { queue = record { waiting = ws; gap = None }; puts = with_class c.self.inside.puts c.args.class (c.get.result.now + 1); places = c.self.inside.places } in
    let counts : ℕ → Outgoing g.row.T.Denot = λ n. record { queue = record { waiting = waiting_of (entries_of c.self.inside.queues) ++ (c.args.class, c.args.item) ∷ []; gap = None }; puts = with_class c.self.inside.puts c.args.class (n + 1); places = c.self.inside.places } in
    let after : Outgoing g.row.T.Denot → Outgoing g.row.T.Denot = λ o. record { queue = record { waiting = o.queue.waiting ++ (c.args.class, c.args.item) ∷ []; gap = None }; puts = with_class o.puts c.args.class (at_class o.puts c.args.class + 1); places = o.places } in
    ap waits (waiting-added (entries_of c.self.inside.queues) (entries_of (with_class c.self.inside.queues c.args.class c.push_back_reserved.new.self)) (total c.self.inside.puts) c.args.class entry (reserved_sound c.self.inside.queues c.self.inside.puts c.self.inside.places c.self.inside.gap c.self.invariant) (adds_put c.self.inside.queues c.args.class c.push_back_reserved.new.self entry (last g c)) refl)
    ∙ (ap counts c.get.ensures ∙ ap after c.self.view_is)
