-- What counting a packet does to the six counters.
use Rattle.std.proofs.Common.{◌≡◌, ℕ, ◌+◌, ◌%◌, ◌<◌, ◌≤◌, ◌↔◌, refl, sym, ap, ◌∙◌, add-zero, arith}
use Rattle.std.proofs.Math.Nat.{mod-add-mod, mod-eq_of_lt}
use Rattle.credit.specs.Kinds.{Class, Cost, Kind, size_of, where_same, amount_of, cost_of}
use Rattle.credit.specs.Counter.{distance}
use Rattle.credit.specs.Limits.{Counters, credits_at, at, back, further, with_credits, counted, uncounted}
use Rattle.credit.specs.Totals.{Count, with_cost}
use Rattle.credit.proofs.Distances.{distance-zero, distance-uncounted}

-- a counter that is not touched
kept : (n x : ℕ) → x < n → x ≡ (x + 0) % n
kept n x h = sym (mod-eq_of_lt h) ∙ ap (λ m. m % n) (sym (add-zero x))

-- each counter goes on by what its kind costs
at-charged : (class : Class) (n : ℕ) (c : Counters) (k : Kind) → at c k < size_of k → at (with_credits c class (further (credits_at c class) n)) k ≡ (at c k + amount_of class n k) % size_of k
at-charged Class.Posted n c (Kind.Headers Class.Posted) h = refl
at-charged Class.Posted n c (Kind.Headers Class.NonPosted) h = kept 256 (at c (Kind.Headers Class.NonPosted)) h
at-charged Class.Posted n c (Kind.Headers Class.Completion) h = kept 256 (at c (Kind.Headers Class.Completion)) h
at-charged Class.Posted n c (Kind.Data Class.Posted) h = refl
at-charged Class.Posted n c (Kind.Data Class.NonPosted) h = kept 4096 (at c (Kind.Data Class.NonPosted)) h
at-charged Class.Posted n c (Kind.Data Class.Completion) h = kept 4096 (at c (Kind.Data Class.Completion)) h
at-charged Class.NonPosted n c (Kind.Headers Class.Posted) h = kept 256 (at c (Kind.Headers Class.Posted)) h
at-charged Class.NonPosted n c (Kind.Headers Class.NonPosted) h = refl
at-charged Class.NonPosted n c (Kind.Headers Class.Completion) h = kept 256 (at c (Kind.Headers Class.Completion)) h
at-charged Class.NonPosted n c (Kind.Data Class.Posted) h = kept 4096 (at c (Kind.Data Class.Posted)) h
at-charged Class.NonPosted n c (Kind.Data Class.NonPosted) h = refl
at-charged Class.NonPosted n c (Kind.Data Class.Completion) h = kept 4096 (at c (Kind.Data Class.Completion)) h
at-charged Class.Completion n c (Kind.Headers Class.Posted) h = kept 256 (at c (Kind.Headers Class.Posted)) h
at-charged Class.Completion n c (Kind.Headers Class.NonPosted) h = kept 256 (at c (Kind.Headers Class.NonPosted)) h
at-charged Class.Completion n c (Kind.Headers Class.Completion) h = refl
at-charged Class.Completion n c (Kind.Data Class.Posted) h = kept 4096 (at c (Kind.Data Class.Posted)) h
at-charged Class.Completion n c (Kind.Data Class.NonPosted) h = kept 4096 (at c (Kind.Data Class.NonPosted)) h
at-charged Class.Completion n c (Kind.Data Class.Completion) h = refl

pub at-counted : (c : Counters) (cost : Cost) (k : Kind) → at c k < size_of k → at (counted c cost) k ≡ (at c k + cost_of cost k) % size_of k
at-counted c cost k h = at-charged cost.class cost.data c k h

pub size_positive : (k : Kind) → 0 < size_of k
size_positive (Kind.Headers c) = omega arith
size_positive (Kind.Data c) = omega arith

pub Count-counted : (total : Kind → ℕ) (c : Counters) (cost : Cost) → Count total c → Count (with_cost total cost) (counted c cost)
Count-counted total c cost counts k =
    let positive = size_positive k in
    let is = counts k in
    let below : at c k < size_of k = omega arith in
    at-counted c cost k below ∙ (ap (λ m. (m + cost_of cost k) % size_of k) is ∙ mod-add-mod (total k) (size_of k) (cost_of cost k))

-- a counter that is not taken back
stays : (n x : ℕ) → x < n → x ≡ distance n 0 x
stays n x h = sym (distance-zero n x h)

-- each counter goes back by what its kind costs
at-discharged : (class : Class) (n : ℕ) (c : Counters) (k : Kind) → at c k < size_of k → at (with_credits c class (back (credits_at c class) n)) k ≡ distance (size_of k) (amount_of class n k % size_of k) (at c k)
at-discharged Class.Posted n c (Kind.Headers Class.Posted) h = refl
at-discharged Class.Posted n c (Kind.Headers Class.NonPosted) h = stays 256 (at c (Kind.Headers Class.NonPosted)) h
at-discharged Class.Posted n c (Kind.Headers Class.Completion) h = stays 256 (at c (Kind.Headers Class.Completion)) h
at-discharged Class.Posted n c (Kind.Data Class.Posted) h = refl
at-discharged Class.Posted n c (Kind.Data Class.NonPosted) h = stays 4096 (at c (Kind.Data Class.NonPosted)) h
at-discharged Class.Posted n c (Kind.Data Class.Completion) h = stays 4096 (at c (Kind.Data Class.Completion)) h
at-discharged Class.NonPosted n c (Kind.Headers Class.Posted) h = stays 256 (at c (Kind.Headers Class.Posted)) h
at-discharged Class.NonPosted n c (Kind.Headers Class.NonPosted) h = refl
at-discharged Class.NonPosted n c (Kind.Headers Class.Completion) h = stays 256 (at c (Kind.Headers Class.Completion)) h
at-discharged Class.NonPosted n c (Kind.Data Class.Posted) h = stays 4096 (at c (Kind.Data Class.Posted)) h
at-discharged Class.NonPosted n c (Kind.Data Class.NonPosted) h = refl
at-discharged Class.NonPosted n c (Kind.Data Class.Completion) h = stays 4096 (at c (Kind.Data Class.Completion)) h
at-discharged Class.Completion n c (Kind.Headers Class.Posted) h = stays 256 (at c (Kind.Headers Class.Posted)) h
at-discharged Class.Completion n c (Kind.Headers Class.NonPosted) h = stays 256 (at c (Kind.Headers Class.NonPosted)) h
at-discharged Class.Completion n c (Kind.Headers Class.Completion) h = refl
at-discharged Class.Completion n c (Kind.Data Class.Posted) h = stays 4096 (at c (Kind.Data Class.Posted)) h
at-discharged Class.Completion n c (Kind.Data Class.NonPosted) h = stays 4096 (at c (Kind.Data Class.NonPosted)) h
at-discharged Class.Completion n c (Kind.Data Class.Completion) h = refl

pub at-uncounted : (c : Counters) (cost : Cost) (k : Kind) → at c k < size_of k → at (uncounted c cost) k ≡ distance (size_of k) (cost_of cost k % size_of k) (at c k)
at-uncounted c cost k h = at-discharged cost.class cost.data c k h

pub Count-uncounted : (total : Kind → ℕ) (c : Counters) (cost : Cost) → Count (with_cost total cost) c → Count total (uncounted c cost)
Count-uncounted total c cost counts k =
    let positive = size_positive k in
    let is = counts k in
    let below : at c k < size_of k = omega arith in
    at-uncounted c cost k below ∙ (ap (λ m. distance (size_of k) (cost_of cost k % size_of k) m) is ∙ distance-uncounted (size_of k) (total k) (cost_of cost k) positive)

-- a fact about a cost of one class, and about none
where_same_le : (class c : Class) (n : ℕ) (left : Class → ℕ) → n ≤ left class → where_same class c n ≤ left c
where_same_le Class.Posted Class.Posted n left h = h
where_same_le Class.Posted Class.NonPosted n left h = omega arith
where_same_le Class.Posted Class.Completion n left h = omega arith
where_same_le Class.NonPosted Class.Posted n left h = omega arith
where_same_le Class.NonPosted Class.NonPosted n left h = h
where_same_le Class.NonPosted Class.Completion n left h = omega arith
where_same_le Class.Completion Class.Posted n left h = omega arith
where_same_le Class.Completion Class.NonPosted n left h = omega arith
where_same_le Class.Completion Class.Completion n left h = h

pub where_same-le : (class c : Class) (n : ℕ) → where_same class c n ≤ n
where_same-le class c n = where_same_le class c n (λ _. n) (omega arith)

where_same_same : (class : Class) (n : ℕ) → where_same class class n ≡ n
where_same_same Class.Posted n = refl
where_same_same Class.NonPosted n = refl
where_same_same Class.Completion n = refl

-- a cost is covered where its header and its data are
pub covers-all : (class : Class) (n : ℕ) (left : Kind → ℕ) → ((1 ≤ left (Kind.Headers class)) × (n ≤ left (Kind.Data class))) ↔ ((k : Kind) → amount_of class n k ≤ left k)
covers-all class n left = (forth, back)
  where
    forth : (1 ≤ left (Kind.Headers class)) × (n ≤ left (Kind.Data class)) → (k : Kind) → amount_of class n k ≤ left k
    forth h (Kind.Headers c) = where_same_le class c 1 (λ d. left (Kind.Headers d)) h.0
    forth h (Kind.Data c) = where_same_le class c n (λ d. left (Kind.Data d)) h.1

    back : ((k : Kind) → amount_of class n k ≤ left k) → (1 ≤ left (Kind.Headers class)) × (n ≤ left (Kind.Data class))
    back h = (rw (where_same_same class 1) at (h (Kind.Headers class)), rw (where_same_same class n) at (h (Kind.Data class)))
