use Rattle.std.proofs.Common.{◌≡◌, ◌++◌, ◌-◌}
use Rattle.outboxes.specs.Outboxes.{host_boxes}
use Rattle.outboxes.proofs.starts.add_hosts.Given as goal

abbrev pub invariant-loop-number : goal.invariant-loop-number
invariant-loop-number l = l.boxes.items ≡ l.initial.boxes.items ++ host_boxes l.layout (l.number - 1)
