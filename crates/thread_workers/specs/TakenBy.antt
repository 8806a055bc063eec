-- Who took a packet, and which one is given back.
use Rattle.std.specs.Prelude.{Bool, true, false}
use Rattle.frame_log.specs.Descriptor.{Descriptor}
use Rattle.thread_workers.specs.declared.ends.taken_by.TakenBy.{TakenBy}
use Rattle.thread_workers.specs.declared.ends.taken_by.TakenBy.TheVariants.{Own, Alien, Stray, Waits, Idle}
use Rattle.thread_workers.specs.declared.ends.taken_by.NotTaken.{NotTaken}
use Rattle.thread_workers.specs.declared.ends.taken_by.NotTaken.TheVariants as not_taken

-- did it leave the queue?
abbrev pub has_moved : TakenBy → Bool
has_moved Own = true
has_moved Alien = true
has_moved Stray = true
has_moved Waits = false
has_moved Idle = false

-- the packet that is given back
abbrev pub frame_not_taken : NotTaken → Descriptor
frame_not_taken (not_taken.Stray frame) = frame
frame_not_taken (not_taken.Waits frame) = frame
