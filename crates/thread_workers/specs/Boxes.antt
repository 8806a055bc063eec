-- An outbox with places for what follows from a packet, and with what followed.
use Rattle.std.specs.Prelude.{ℕ, Option, Some, None, IsTrue}
use Rattle.frame_log.specs.Descriptor.{Descriptor}
use Rattle.lane.specs.Lanes.{Class}
use Rattle.outboxes.specs.Outboxes.{BoxView, takes, with_put}

-- with so many places for each class in all
abbrev pub with_places : ℕ → BoxView → BoxView
with_places places box = record { origin = box.origin; queue = box.queue; puts = box.puts; places = places }

-- with what answers a packet behind the others, if anything does
abbrev pub with_answer : Option Descriptor → BoxView → BoxView
with_answer None box = box
with_answer (Some answer) box = with_put answer box

-- a packet of any class may be put
abbrev pub HasRoom : BoxView → Type 0
HasRoom box = (class : Class) → IsTrue (takes box class)

-- one of some class may not, so that the outbox wants more places
abbrev pub IsCramped : BoxView → Type 0
IsCramped box = HasRoom box → ⊥
