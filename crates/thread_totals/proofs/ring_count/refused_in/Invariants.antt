use Rattle.std.proofs.Common.{◌≡◌, take}
use Rattle.thread_totals.specs.Begins.{refused_in}
use Rattle.thread_totals.specs.Counts.{capped}
use Rattle.thread_totals.proofs.ring_count.refused_in.Given as goal

abbrev pub invariant-loop-ring : goal.invariant-loop-ring
invariant-loop-ring l = l.sum ≡ capped (refused_in (take l.ring-index l.rings))
