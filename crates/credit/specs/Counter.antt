-- PCIe 4.0, 2.6.1.2: flow control counters count modulo a power of two.
use Rattle.std.specs.Prelude.{ℕ, ◌+◌, ◌-◌, ◌%◌}

-- how far a counter of this size has to go on to be the other
abbrev pub distance : ℕ → ℕ → ℕ → ℕ
distance size from to = (to + (size - from)) % size
