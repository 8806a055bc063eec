use Rattle.std.proofs.Common.{length, ap, arith}
use Rattle.ordering.specs.Ordering.{Class}
use Rattle.port_queue.specs.PerClass.{at_class}
use Rattle.port_queue.specs.Queue.{Queue}
use Rattle.port_queue.proofs.Emptiness.{length-waiting}
use Rattle.port_queue.proofs.Keeping.{kept_length}
use Rattle.port_queue.proofs.bounded.PortQueue.len.Goals as goal

pub overflow_add-result : goal.overflow_add-result
overflow_add-result g c =
    let within = kept_length g.row.CAP (at_class c.self.inside.queues) c.self.inside.next c.self.inside.gap c.self.invariant in
    let small = c.self.invariant.small in
    omega (arith, within Class.Posted, within Class.NonPosted)

pub overflow_add-result-2 : goal.overflow_add-result-2
overflow_add-result-2 g c =
    let within = kept_length g.row.CAP (at_class c.self.inside.queues) c.self.inside.next c.self.inside.gap c.self.invariant in
    let small = c.self.invariant.small in
    omega (arith, within Class.Posted, within Class.NonPosted, within Class.Completion)

pub returns : goal.returns
returns g c =
    let all = length-waiting (at_class c.self.inside.queues) in
    let seen = ap (λ (q : Queue g.row.T.Denot). length q.waiting) c.self.view_is in
    omega arith
