use Rattle.std.proofs.Common.{take}
use Rattle.std.specs.List.{flat_map}
use Rattle.thread_totals.specs.Named.{AreNoted}
use Rattle.thread_totals.specs.Standing.{in_pair}
use Rattle.thread_totals.proofs.standing.note_pairs.Given as goal

abbrev pub invariant-loop-ring : goal.invariant-loop-ring
invariant-loop-ring l = AreNoted l.initial.names.items (flat_map in_pair (take l.ring-index l.rings)) l.names.items
