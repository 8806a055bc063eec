-- The seats of ports in the queue of violations.
use Rattle.std.specs.Prelude.{◌≡◌, ℕ, ◌+◌, List, [], ◌∷◌, length, ⊤}
use Rattle.std.specs.List.{filter_map}
use Rattle.atomic_table.specs.Seated.{TableId}
use Rattle.monitor.specs.Reporting.{QueueSeat}
use Rattle.thread_staff.specs.Kept.{PostKept}
use Rattle.thread_staff.specs.Watched.{MonitorKept}

-- those of the ports among these, in order
abbrev pub seats_of : List PostKept → List QueueSeat
seats_of posts = filter_map (λ post. post.seat) posts

-- they are seats of this queue, from this number on
abbrev pub AreSeated : TableId → ℕ → List QueueSeat → Type 0
AreSeated queue n [] = ⊤
AreSeated queue n (seat ∷ seats) = (seat.queue ≡ queue) × (seat.seat ≡ n) × AreSeated queue (n + 1) seats

-- no port's end of the queue has come back yet, and the ports have the seats that the monitor gave, in their order
pub record AreWatched (monitor : MonitorKept) (posts : List PostKept) : Type 0 where
  pub none : monitor.ended ≡ []
  pub seated : AreSeated monitor.queue 0 (seats_of posts)
  pub seats : length (seats_of posts) ≡ monitor.seats
