-- PCIe 4.0, 2.6.1: what modular counters stand for are totals without bound.
use Rattle.std.specs.Prelude.{◌≡◌, ℕ, ◌+◌, ◌%◌, ◌<◌, ◌≤◌, ◌/◌}
use Rattle.credit.specs.Counter.{distance}
use Rattle.credit.specs.Kinds.{Kind, Cost, size_of, cost_of}
use Rattle.credit.specs.Limits.{Counters, Ledger, at}

-- each counter is the total of its kind modulo its size
abbrev pub Count : (Kind → ℕ) → Counters → Type 0
Count total c = (k : Kind) → at c k ≡ total k % size_of k

-- what was sent in all and the limit in all, of which the sender keeps the remainders
pub record StandsFor (sent limit : Kind → ℕ) (s : Ledger) : Type 0 where
  pub sent_counted : Count sent s.credits_consumed
  pub limit_counted : Count limit s.credit_limit
  pub in_range : (k : Kind) → (sent k ≤ limit k) × (limit k ≤ sent k + at s.start k)

-- a send is allowed where, for each kind that it costs, what was sent and the cost are within the limit
abbrev pub IsAllowed : (Kind → ℕ) → (Kind → ℕ) → Cost → Type 0
IsAllowed sent limit cost = (k : Kind) → 0 < cost_of cost k → sent k + cost_of cost k ≤ limit k

-- totals once a packet of this cost is counted
abbrev pub with_cost : (Kind → ℕ) → Cost → Kind → ℕ
with_cost total cost k = total k + cost_of cost k

-- the standard's own test, modulo the size: the limit less the credits required is at most half of the size
abbrev pub PassesGate : Ledger → Cost → Type 0
PassesGate s cost = (k : Kind) → 0 < cost_of cost k →
    distance (size_of k) ((at s.credits_consumed k + cost_of cost k) % size_of k) (at s.credit_limit k) ≤ size_of k / 2
