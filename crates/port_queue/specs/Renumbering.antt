-- Class queues whose entries are numbered anew: those that still have their old numbers stand first.
use Rattle.std.specs.Prelude.{ℕ, List, take, drop}
use Rattle.port_queue.specs.PerClass.{Class, PerClass, at_class}

module _ {X : Type 0} where
  -- the first entries of a class, so many as are left
  abbrev pub firsts_of : PerClass (List X) → PerClass ℕ → Class → List X
  firsts_of queues left class = take (at_class left class) (at_class queues class)

  -- and those behind them
  abbrev pub others_of : PerClass (List X) → PerClass ℕ → Class → List X
  others_of queues left class = drop (at_class left class) (at_class queues class)
