-- A queue of packets, each of which waits under its own class.
use Rattle.std.specs.Prelude.{◌≡◌, ℕ, List, map, Option, option_map, All}
use Rattle.frame_log.specs.Descriptor.{Descriptor}
use Rattle.port_queue.specs.Queue.{Queue, restored}
use Rattle.lane.specs.Lanes.{Class, class_of}

-- what waits, and how often the queue lent no head and had no place, in numbers that wrap
pub record Waiting : Type 0 where
  pub queue : Queue Descriptor
  pub misses : ℕ
  pub refusals : ℕ

-- each packet waits under its own class
abbrev pub IsSorted : List (Class × Descriptor) → Type 0
IsSorted waiting = All (λ w. w.0 ≡ class_of w.1) waiting

abbrev pub frames_of : List (Class × Descriptor) → List Descriptor
frames_of waiting = map (λ w. w.1) waiting

-- what waits once a packet is put back that was just taken
abbrev pub frames_restored : Queue Descriptor → Descriptor → Option (List Descriptor)
frames_restored queue frame = option_map frames_of (restored queue (class_of frame) frame)
