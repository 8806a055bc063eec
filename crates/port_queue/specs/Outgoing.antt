-- A queue that takes a counted number of items of each class.
use Rattle.std.specs.Prelude.{ℕ, ◌+◌, ◌≤◌, List, Option, length}
use Rattle.port_queue.specs.Queue.{Queue}
use Rattle.port_queue.specs.PerClass.{Class, PerClass, at_class}
pub use Rattle.port_queue.specs.Room.{VecDeque, Global, IsRoomy}
use Rattle.port_queue.specs.Arrivals.{Entry, Gap, numbers_of, with_gap, AreClassQueues}

-- what waits, how many of each class were put in all, and how many of each may be
pub record Outgoing (T : Type 0) : Type 0 where
  pub queue : Queue T
  pub puts : PerClass ℕ
  pub places : ℕ

abbrev pub total : PerClass ℕ → ℕ
total puts = puts.posted + puts.non_posted + puts.completion

module _ {T : Type 0} where
  abbrev pub entries_of : PerClass (VecDeque (Entry T) Global) → Class → List (Entry T)
  entries_of queues class = (at_class queues class).items

  -- what was put is numbered in turn, and all that may still be put has a place
  pub record IsReserved (queues : PerClass (VecDeque (Entry T) Global)) (puts : PerClass ℕ) (places : ℕ) (gap : Option Gap) : Type 0 where
    pub kept : AreClassQueues places (entries_of queues) (total puts) gap
    pub counted : (c : Class) → length (with_gap gap (numbers_of (entries_of queues)) c) ≤ at_class puts c
    pub within : (c : Class) → at_class puts c ≤ places
    pub roomy : (c : Class) → IsRoomy places (at_class queues c)
