use Rattle.std.proofs.Common.{◌≤◌, length}
use Rattle.port_queue.specs.Arrivals.{waiting_of}
use Rattle.port_queue.specs.PerClass.{Class, at_class}
use Rattle.port_queue.specs.Renumbering.{firsts_of, others_of}
use Rattle.port_queue.proofs.Renumbering.{Moves}
use Rattle.port_queue.proofs.bounded.renumber.Given as goal

-- what was numbered anew, and then what is left, are what waited
abbrev pub invariant-loop-class : goal.invariant-loop-class
invariant-loop-class g l = Moves g.row.CAP l.next l.number (others_of l.queues l.left) (firsts_of l.queues l.left) (waiting_of (at_class l.initial.queues)) × ((class : Class) → at_class l.left class ≤ length (at_class l.queues class))

abbrev pub decreases-loop-class : goal.decreases-loop-class
decreases-loop-class g l = length (waiting_of (firsts_of l.queues l.left))
