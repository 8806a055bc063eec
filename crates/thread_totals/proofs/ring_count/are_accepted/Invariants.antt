use Rattle.std.proofs.Common.{◌≡◌, ◌+◌, take}
use Rattle.thread_totals.specs.Begins.{accepted_in}
use Rattle.thread_totals.proofs.ring_count.are_accepted.Given as goal

abbrev pub invariant-loop-ring : goal.invariant-loop-ring
invariant-loop-ring l = l.left + accepted_in (take l.ring-index l.rings) ≡ l.fn.begins
