use Rattle.std.proofs.Common.{take}
use Rattle.std.specs.List.{flat_map}
use Rattle.thread_totals.specs.Named.{AreNoted}
use Rattle.thread_totals.specs.Standing.{in_hands}
use Rattle.thread_totals.proofs.standing.note_all_hands.Given as goal

abbrev pub invariant-loop-worker : goal.invariant-loop-worker
invariant-loop-worker l = AreNoted l.initial.names.items (flat_map in_hands (take l.worker-index l.remains)) l.names.items
