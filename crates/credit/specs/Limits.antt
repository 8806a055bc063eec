-- PCIe 4.0, 2.6.1: the counters of the six kinds at either side of a link.
use Rattle.std.specs.Prelude.{ℕ, ◌+◌, ◌/◌, ◌%◌, ◌<◌, ◌≤◌}
use Rattle.credit.specs.Counter.{distance}
use Rattle.credit.specs.Kinds.{Class, Cost, Kind, size_of, cost_of}
pub use Rattle.credit.specs.declared.counters.Credits.{Credits}
pub use Rattle.credit.specs.declared.counters.Counters.{Counters}

abbrev pub credits_at : Counters → Class → Credits
credits_at c Class.Posted = c.posted
credits_at c Class.NonPosted = c.non_posted
credits_at c Class.Completion = c.completion

-- the counter of a kind
abbrev pub at : Counters → Kind → ℕ
at c (Kind.Headers class) = (credits_at c class).headers
at c (Kind.Data class) = (credits_at c class).payload

abbrev pub no_credits : Credits
no_credits = record { headers = 0; payload = 0 }

abbrev pub zero_counters : Counters
zero_counters = record { posted = no_credits; non_posted = no_credits; completion = no_credits }

-- one header and n data credits further
abbrev pub further : Credits → ℕ → Credits
further c n = record { headers = (c.headers + 1) % 256; payload = (c.payload + n) % 4096 }

-- one header and n data credits back
abbrev pub back : Credits → ℕ → Credits
back c n = record { headers = distance 256 1 c.headers; payload = distance 4096 (n % 4096) c.payload }

-- the counters with one class's credits in place of those that it had
abbrev pub with_credits : Counters → Class → Credits → Counters
with_credits c Class.Posted x = record { posted = x; non_posted = c.non_posted; completion = c.completion }
with_credits c Class.NonPosted x = record { posted = c.posted; non_posted = x; completion = c.completion }
with_credits c Class.Completion x = record { posted = c.posted; non_posted = c.non_posted; completion = x }

-- the counters once a packet of this cost is counted
abbrev pub counted : Counters → Cost → Counters
counted c cost = with_credits c cost.class (further (credits_at c cost.class) cost.data)

-- the counters from which a packet of this cost leads to these
abbrev pub uncounted : Counters → Cost → Counters
uncounted c cost = with_credits c cost.class (back (credits_at c cost.class) cost.data)

-- a receiver may advertise these at the start: less than half of what a counter holds
abbrev pub MayStart : Counters → Type 0
MayStart c = (k : Kind) → at c k < size_of k / 2

-- what a sender keeps: the credits consumed, the credit limit, and the limit at the start
pub record Ledger : Type 0 where
  pub credits_consumed : Counters
  pub credit_limit : Counters
  pub start : Counters

-- the credits of a kind that are left
abbrev pub left_of : Ledger → Kind → ℕ
left_of s k = distance (size_of k) (at s.credits_consumed k) (at s.credit_limit k)

-- how far the counters of a class are behind others
abbrev pub ahead : Credits → Credits → Credits
ahead sent limit = record { headers = distance 256 sent.headers limit.headers; payload = distance 4096 sent.payload limit.payload }

-- the credits of all kinds that are left
abbrev pub left_counters : Counters → Counters → Counters
left_counters sent limit = record { posted = ahead sent.posted limit.posted; non_posted = ahead sent.non_posted limit.non_posted; completion = ahead sent.completion limit.completion }

-- of a kind never more is left than at the start, which is less than half of what a counter holds
pub record IsInRangeAt (s : Ledger) (k : Kind) : Type 0 where
  pub counter : at s.credits_consumed k < size_of k
  pub left : left_of s k ≤ at s.start k
  pub start : at s.start k < size_of k / 2

abbrev pub IsInRange : Ledger → Type 0
IsInRange s = (k : Kind) → IsInRangeAt s k

abbrev pub HasRoom : Ledger → Cost → Type 0
HasRoom s cost = (k : Kind) → cost_of cost k ≤ left_of s k

-- new limits that take nothing back, and give no more than the start
abbrev pub IsUpdate : Ledger → Counters → Type 0
IsUpdate s limits = (k : Kind) →
    (left_of s k ≤ distance (size_of k) (at s.credits_consumed k) (at limits k)) × (distance (size_of k) (at s.credits_consumed k) (at limits k) ≤ at s.start k)

-- what a receiver keeps: the credits received, and the credits allocated, which it advertises
pub record Allotment : Type 0 where
  pub credits_received : Counters
  pub credits_allocated : Counters
