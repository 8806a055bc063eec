use Rattle.std.proofs.Common.{length, ap, arith}
use Rattle.ordering.specs.Ordering.{Class}
use Rattle.port_queue.specs.Outgoing.{Outgoing, entries_of}
use Rattle.port_queue.proofs.Emptiness.{length-waiting}
use Rattle.port_queue.proofs.Reserving.{reserved_len}
use Rattle.port_queue.proofs.reserved.Outbox.len.Goals as goal

pub overflow_add-result-2 : goal.overflow_add-result-2
overflow_add-result-2 g c =
    let within = reserved_len c.self.inside.queues c.self.inside.puts c.self.inside.places c.self.inside.gap c.self.invariant in
    let small = c.self.invariant.kept.small in
    omega (arith, within Class.Posted, within Class.NonPosted, within Class.Completion)

pub returns : goal.returns
returns g c =
    let all = length-waiting (entries_of c.self.inside.queues) in
    let posted = (c.self.invariant.roomy Class.Posted).long in
    let non_posted = (c.self.invariant.roomy Class.NonPosted).long in
    let completion = (c.self.invariant.roomy Class.Completion).long in
    let seen = ap (λ (o : Outgoing g.row.T.Denot). length o.queue.waiting) c.self.view_is in
    omega arith
