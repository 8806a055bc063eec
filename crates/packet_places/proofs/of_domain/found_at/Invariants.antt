use Rattle.std.proofs.Common.{take}
use Rattle.interconnect.specs.Views.{channels}
use Rattle.packet_places.specs.Noted.{AreNoted}
use Rattle.packet_places.specs.Standing.{standing_in}
use Rattle.packet_places.proofs.of_domain.found_at.Given as goal

abbrev pub invariant-loop-number : goal.invariant-loop-number
invariant-loop-number l = AreNoted (standing_in (l.interconnect.tree).links (channels l.interconnect) l.agents.outboxes) l.domain l.places (take l.number l.places) l.found.entries
