use Rattle.std.proofs.Common.{◌≡◌}
use Rattle.frame_log.proofs.row.Row.store.Given as goal

abbrev pub invariant-loop-number : goal.invariant-loop-number
invariant-loop-number l = l.left ≡ l.fn.entry
