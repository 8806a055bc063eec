-- How far the limit is from what was sent, once credits are freed or taken back.
use Rattle.std.proofs.Common.{◌≡◌, ◌+◌, ◌-◌, ◌<◌, ◌≤◌, ap, ◌∙◌}
use Rattle.credit.specs.Counter.{distance}
use Rattle.credit.specs.Kinds.{Cost, Kind, size_of, cost_of}
use Rattle.credit.specs.Limits.{Counters, at, counted, uncounted}
use Rattle.credit.proofs.Counting.{at-counted, at-uncounted}
use Rattle.credit.proofs.Distances.{distance-freed, distance-reclaimed}

-- freed credits lead the limit on, while it stays below the size of the counter
pub freed-ahead : (sent limit : Counters) (cost : Cost) (k : Kind) → at sent k < size_of k → at limit k < size_of k
    → distance (size_of k) (at sent k) (at limit k) + cost_of cost k < size_of k
    → distance (size_of k) (at sent k) (at (counted limit cost) k) ≡ distance (size_of k) (at sent k) (at limit k) + cost_of cost k
freed-ahead sent limit cost k low high small =
    ap (λ m. distance (size_of k) (at sent k) m) (at-counted limit cost k high) ∙ distance-freed (size_of k) (at sent k) (at limit k) (cost_of cost k) low small

-- credits that are taken back lead it back, if as many were left
pub reclaimed-ahead : (sent limit : Counters) (cost : Cost) (k : Kind) → at sent k < size_of k → at limit k < size_of k
    → cost_of cost k ≤ distance (size_of k) (at sent k) (at limit k)
    → distance (size_of k) (at sent k) (at (uncounted limit cost) k) ≡ distance (size_of k) (at sent k) (at limit k) - cost_of cost k
reclaimed-ahead sent limit cost k low high room =
    ap (λ m. distance (size_of k) (at sent k) m) (at-uncounted limit cost k high) ∙ distance-reclaimed (size_of k) (at sent k) (at limit k) (cost_of cost k) low room
