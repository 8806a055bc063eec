use Rattle.std.proofs.Common.{◌≡◌, sym, ap, ◌∙◌, slice_get, Some, length, refl, arith}
use Rattle.port_queue.specs.Queue.{head_of}
use Rattle.port_queue.specs.Outgoing.{VecDeque, Global, Outgoing, total, entries_of}
use Rattle.port_queue.specs.Arrivals.{Entry}
use Rattle.std.specs.VecDeque.{deque_len}
use Rattle.port_queue.proofs.Heads.{head_found, head_none, front_of}
use Rattle.port_queue.proofs.Reserving.{reserved_sound}
use Rattle.port_queue.proofs.reserved.Outbox.head.Goals as goal

pub returns-then-not-is_eligible : goal.returns-then-not-is_eligible
returns-then-not-is_eligible g c =
    head_none (entries_of c.self.inside.queues) (total c.self.inside.puts) c.args.class c.is_eligible.result (reserved_sound c.self.inside.queues c.self.inside.puts c.self.inside.places c.self.inside.gap c.self.invariant) c.is_eligible.ensures c.if-not-is_eligible.true
    ∙ ap (λ (o : Outgoing g.row.T.Denot). head_of c.args.class o.queue.waiting) c.self.view_is

pub returns-in-Some : goal.returns-in-Some
returns-in-Some g c =
    let front : slice_get (entries_of c.self.inside.queues c.args.class) 0 ≡ Some c.in-Some.entry.now =
    (let long = (c.self.invariant.roomy c.args.class).long in
    let len = ap (λ (q : VecDeque (Entry g.row.T.Denot) Global). deque_len q) c.get.ensures in
    let size = ap (λ (q : VecDeque (Entry g.row.T.Denot) Global). length q.items) c.get.ensures in
    let pos = c.in-Some.ensures.variant.0 refl in
    ap (λ (q : VecDeque (Entry g.row.T.Denot) Global). slice_get q.items 0) (sym c.get.ensures) ∙ front_of c.get.result.now.items c.in-Some.entry.now (omega arith) c.in-Some.ensures.lookup) in
    head_found (entries_of c.self.inside.queues) (total c.self.inside.puts) c.args.class c.in-Some.entry.now c.is_eligible.result (reserved_sound c.self.inside.queues c.self.inside.puts c.self.inside.places c.self.inside.gap c.self.invariant) c.is_eligible.ensures c.if-not-is_eligible.false front
    ∙ ap (λ (o : Outgoing g.row.T.Denot). head_of c.args.class o.queue.waiting) c.self.view_is
