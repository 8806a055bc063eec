-- Queues that have room for so many items.
use Rattle.std.specs.Prelude.{◌≡◌, ℕ, ◌≤◌, length}
pub use Rattle.std.specs.declared.collections.VecDeque.{VecDeque}
use Rattle.std.specs.VecDeque.{deque_len, deque_capacity}
pub use Rattle.std.specs.declared.alloc.Global.{Global}

-- a queue with this many places
pub record IsRoomy {X : Type 0} (places : ℕ) (q : VecDeque X Global) : Type 0 where
  pub reserved : places ≤ deque_capacity q
  pub long : deque_len q ≡ length q.items
