use Rattle.std.proofs.Common.{take}
use Rattle.std.specs.List.{flat_map}
use Rattle.thread_totals.specs.Named.{AreNoted}
use Rattle.thread_totals.specs.Standing.{in_outbox}
use Rattle.thread_totals.proofs.standing.note_hosts.Given as goal

abbrev pub invariant-loop-host : goal.invariant-loop-host
invariant-loop-host l = AreNoted l.initial.names.items (flat_map in_outbox (take l.host-index l.hosts)) l.names.items
