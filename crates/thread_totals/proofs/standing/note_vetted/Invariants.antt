use Rattle.std.proofs.Common.{map, take}
use Rattle.thread_totals.specs.Named.{AreNoted}
use Rattle.thread_totals.proofs.standing.note_vetted.Given as goal

abbrev pub invariant-loop-packet : goal.invariant-loop-packet
invariant-loop-packet l = AreNoted l.initial.names.items (map (λ packet. packet.frame) (take l.packet-index l.packets)) l.names.items
