-- How often a packet that a domain made was consumed, and which of two first. An entry that ends it takes its number
-- out of flight.
use Rattle.std.specs.Prelude.{◌≡◌, ℕ, ◌+◌, ◌==◌, Bool, true, false, ◌&&◌, ◌||◌, not, nat_lt, List, [], ◌∷◌, length, count_by, Option, Some, None, if◌then◌else◌}
use Rattle.domain.specs.declared.entry.Entry.{Entry}
use Rattle.domain.specs.declared.entry.Entry.TheVariants.{Submit, Tick, Mmio, Refuse, Carry, Deliver, Alien}
use Rattle.request_handling.specs.Emissions.{Emission}
use Rattle.domain_state.specs.State.{Alone, item_at}

-- does the entry end the packet of this number?
abbrev pub consumes : ℕ → Entry → Bool
consumes n (Submit function bytes) = false
consumes n (Tick function) = false
consumes n (Mmio access) = false
consumes n (Refuse number) = number == n
consumes n (Carry number) = number == n
consumes n (Deliver number) = number == n
consumes n (Alien place sender bytes) = false

-- how many entries of a journal do so
abbrev pub times_consumed : ℕ → List Entry → ℕ
times_consumed n journal = count_by (consumes n) journal

-- does no entry consume the second number before one consumes the first?
abbrev pub is_in_order : ℕ → ℕ → List Entry → Bool
is_in_order n m [] = true
is_in_order n m (entry ∷ entries) = consumes n entry || (not (consumes m entry) && is_in_order n m entries)

-- how often a packet that is in flight waits to be consumed
abbrev pub times_waiting : Option Emission → ℕ
times_waiting None = 0
times_waiting (Some e) = 1

-- how often the domain made a packet of this number: numbers are given in turn, and never again
abbrev pub times_emitted : Alone → ℕ → ℕ
times_emitted s n = if nat_lt n (length s.flight) then 1 else 0

-- each packet that the domain made is in flight, or was consumed by exactly one entry
abbrev pub AreConsumedOnce : List Entry → Alone → Type 0
AreConsumedOnce journal s = (n : ℕ) → times_consumed n journal + times_waiting (item_at s.flight n) ≡ times_emitted s n
