-- What a direction of a link keeps, at each of its steps.
use Rattle.std.proofs.Common.{◌≡◌, ℕ, ◌+◌, ◌-◌, ◌/◌, ◌≤◌, ◌<◌, List, [], ◌∷◌, ◌++◌, length, Some, refl, ap, ◌∙◌, subst, arith}
use Rattle.std.specs.Prelude.{slice_get}
use Rattle.std.proofs.lemmas.List.{length-append}
use Rattle.frame_log.specs.Descriptor.{Descriptor}
use Rattle.credit.specs.Counter.{distance}
use Rattle.credit.specs.Kinds.{Class, Cost, Kind, size_of, cost_of, where_same}
use Rattle.credit.specs.Limits.{Ledger, at, counted, uncounted, zero_counters, left_of, MayStart, HasRoom, IsUpdate}
use Rattle.credit.specs.declared.counters.Counters.{Counters}
use Rattle.credit.proofs.Counting.{at-counted, at-uncounted, size_positive, covers-all}
use Rattle.credit.proofs.Distances.{distance-spent, distance-zero}
use Rattle.credit.proofs.Freeing.{freed-ahead, reclaimed-ahead}
use Rattle.credit.proofs.Standing.{at-zero, start-in_range, spent-in_range, update-in_range}
use Rattle.lane.specs.Lanes.{class_of}
use Rattle.link.specs.Channels.{total}
use Rattle.link.specs.Simplexes.{IsCounted}
use Rattle.link.proofs.Totals.{total-append, length-total}

half : (k : Kind) → size_of k / 2 + size_of k / 2 ≡ size_of k
half (Kind.Headers c) = refl
half (Kind.Data c) = refl

counted_bounded : (c : Counters) (cost : Cost) (k : Kind) → at c k < size_of k → at (counted c cost) k < size_of k
counted_bounded c cost k h =
    let is = at-counted c cost k h in
    let positive = size_positive k in
    omega arith

uncounted_bounded : (c : Counters) (cost : Cost) (k : Kind) → at c k < size_of k → at (uncounted c cost) k < size_of k
uncounted_bounded c cost k h =
    let is = at-uncounted c cost k h in
    let positive = size_positive k in
    omega arith

pub start-counted : (limits : Counters) → MayStart limits → IsCounted (record { credits_consumed = zero_counters; credit_limit = limits; start = limits }) limits []
start-counted limits may =
    let range = start-in_range limits may in
    record {
      range = range;
      covered = λ k. let left = (range k).left in omega arith;
      freed = λ k.
          let start = may k in let halves = half k in
          let small : at limits k < size_of k = omega arith in
          let left : distance (size_of k) (at zero_counters k) (at limits k) ≡ at limits k = ap (λ m. distance (size_of k) m (at limits k)) (at-zero k) ∙ distance-zero (size_of k) (at limits k) small in
          omega arith;
      known = λ k. let start = may k in let halves = half k in omega arith;
      bounded = λ k. let start = may k in let halves = half k in omega arith;
    }

-- the same packets, in other places
pub moved-counted : (s : Ledger) (limit : Counters) (before after : List Descriptor) → ((k : Kind) → total k after ≡ total k before) → IsCounted s limit before → IsCounted s limit after
moved-counted s limit before after same kept = record {
  range = kept.range;
  covered = λ k. let covered = kept.covered k in let is = same k in omega arith;
  freed = λ k. let freed = kept.freed k in let is = same k in omega arith;
  known = kept.known;
  bounded = kept.bounded;
}

-- a packet that is sent spends what it costs
pub spent-counted : (s : Ledger) (limit : Counters) (cost : Cost) (before after : List Descriptor) → ((k : Kind) → total k after ≡ cost_of cost k + total k before) → HasRoom s cost
    → IsCounted s limit before → IsCounted (record s { credits_consumed = counted s.credits_consumed cost }) limit after
spent-counted s limit cost before after more room kept = record {
  range = spent-in_range s cost kept.range room;
  covered = λ k.
      let left = spent_ahead k (at s.credit_limit k) (room k) in
      let is = more k in let covered = kept.covered k in let has = room k in
      omega arith;
  freed = λ k.
      let is = more k in let covered = kept.covered k in let has = room k in let freed = kept.freed k in
      let within : cost_of cost k ≤ distance (size_of k) (at s.credits_consumed k) (at limit k) = omega arith in
      let left = spent_ahead k (at limit k) within in
      omega arith;
  known = kept.known;
  bounded = kept.bounded;
}
  where
    spent_ahead : (k : Kind) (l : ℕ) → cost_of cost k ≤ distance (size_of k) (at s.credits_consumed k) l → distance (size_of k) (at (counted s.credits_consumed cost) k) l ≡ distance (size_of k) (at s.credits_consumed k) l - cost_of cost k
    spent_ahead k l h =
        ap (λ m. distance (size_of k) m l) (at-counted s.credits_consumed cost k (kept.range k).counter) ∙ distance-spent (size_of k) (at s.credits_consumed k) l (cost_of cost k) (kept.range k).counter h

-- the receiver's limits can be advertised
pub counted-update : (s : Ledger) (limit : Counters) (behind : List Descriptor) → IsCounted s limit behind → IsUpdate s limit
counted-update s limit behind kept k =
    let covered = kept.covered k in
    let freed = kept.freed k in
    (omega arith, omega arith)

pub advertised-counted : (s : Ledger) (limit : Counters) (behind : List Descriptor) → IsCounted s limit behind → IsCounted (record s { credit_limit = limit }) limit behind
advertised-counted s limit behind kept = record {
  range = update-in_range s limit kept.range (counted-update s limit behind kept);
  covered = λ k. let freed = kept.freed k in omega arith;
  freed = kept.freed;
  known = kept.bounded;
  bounded = kept.bounded;
}

-- a packet that leaves frees what it costs
pub freed-counted : (s : Ledger) (limit : Counters) (cost : Cost) (before after : List Descriptor) → ((k : Kind) → total k before ≡ cost_of cost k + total k after)
    → IsCounted s limit before → IsCounted s (counted limit cost) after
freed-counted s limit cost before after less kept = record {
  range = kept.range;
  covered = λ k. let covered = kept.covered k in let is = less k in omega arith;
  freed = λ k.
      let freed = kept.freed k in let is = less k in let start = (kept.range k).start in let halves = half k in
      let small : distance (size_of k) (at s.credits_consumed k) (at limit k) + cost_of cost k < size_of k = omega arith in
      let further = freed-ahead s.credits_consumed limit cost k (kept.range k).counter (kept.bounded k) small in
      omega arith;
  known = kept.known;
  bounded = λ k. counted_bounded limit cost k (kept.bounded k);
}

-- a packet that comes back takes back what it costs, if there is as much beside what the sender has left
pub reclaimed-counted : (s : Ledger) (limit : Counters) (cost : Cost) (before after : List Descriptor) → ((k : Kind) → total k after ≡ cost_of cost k + total k before)
    → ((k : Kind) → left_of s k + total k after ≤ at s.start k) → IsCounted s limit before → IsCounted s (uncounted limit cost) after
reclaimed-counted s limit cost before after more covered kept = record {
  range = kept.range;
  covered = covered;
  freed = λ k.
      let freed = kept.freed k in let is = more k in let within = covered k in
      let room : cost_of cost k ≤ distance (size_of k) (at s.credits_consumed k) (at limit k) = omega arith in
      let back = reclaimed-ahead s.credits_consumed limit cost k (kept.range k).counter (kept.bounded k) room in
      omega arith;
  known = kept.known;
  bounded = λ k. uncounted_bounded limit cost k (kept.bounded k);
}

-- ---- places

-- no more than 127 packets of a class travel and wait, beside the credits that are left
pub counted-places : (s : Ledger) (limit : Counters) (behind : List Descriptor) (c : Class) → IsCounted s limit behind → left_of s (Kind.Headers c) + total (Kind.Headers c) behind ≤ 127
counted-places s limit behind c kept =
    let covered = kept.covered (Kind.Headers c) in
    let start = (kept.range (Kind.Headers c)).start in
    omega arith

three : (c : Class) (left : Class → ℕ) (behind : Class → ℕ) (n : ℕ) → 1 ≤ left c → ((d : Class) → left d + behind d ≤ 127) → n ≤ behind Class.Posted + behind Class.NonPosted + behind Class.Completion → n < 381
three Class.Posted left behind n h each le = let p = each Class.Posted in let m = each Class.NonPosted in let q = each Class.Completion in omega arith
three Class.NonPosted left behind n h each le = let p = each Class.Posted in let m = each Class.NonPosted in let q = each Class.Completion in omega arith
three Class.Completion left behind n h each le = let p = each Class.Posted in let m = each Class.NonPosted in let q = each Class.Completion in omega arith

-- where a packet may be sent, there is a place on the wire
pub wire-place : (s : Ledger) (limit : Counters) (wire ingress : List Descriptor) (cost : Cost) → IsCounted s limit (wire ++ ingress) → HasRoom s cost → length wire < 381
wire-place s limit wire ingress cost kept room =
    let header = ((covers-all cost.class cost.data (left_of s)).1 room).0 in
    let all = length-total (wire ++ ingress) in
    let parts = length-append wire ingress in
    let within : length wire ≤ total (Kind.Headers Class.Posted) (wire ++ ingress) + total (Kind.Headers Class.NonPosted) (wire ++ ingress) + total (Kind.Headers Class.Completion) (wire ++ ingress) = omega arith in
    three cost.class (λ c. left_of s (Kind.Headers c)) (λ c. total (Kind.Headers c) (wire ++ ingress)) (length wire) header (λ d. counted-places s limit (wire ++ ingress) d kept) within

same_one : (c : Class) → where_same c c 1 ≡ 1
same_one Class.Posted = refl
same_one Class.NonPosted = refl
same_one Class.Completion = refl

-- the oldest packet of the wire has a place at the receiver
pub ingress-place : (s : Ledger) (limit : Counters) (wire ingress : List Descriptor) (f : Descriptor) → IsCounted s limit (wire ++ ingress) → slice_get wire 0 ≡ Some f
    → total (Kind.Headers (class_of f)) ingress < 127
ingress-place s limit [] ingress f kept h = cc
ingress-place s limit (x ∷ xs) ingress f kept h =
    let same : x ≡ f = cc in
    let bound : total (Kind.Headers (class_of x)) ingress < 127 = below in
    subst (λ (y : Descriptor). total (Kind.Headers (class_of y)) ingress < 127) same bound
  where
    below : total (Kind.Headers (class_of x)) ingress < 127
    below =
        let places = counted-places s limit ((x ∷ xs) ++ ingress) (class_of x) kept in
        let parts = total-append (Kind.Headers (class_of x)) xs ingress in
        let one = same_one (class_of x) in
        omega arith
