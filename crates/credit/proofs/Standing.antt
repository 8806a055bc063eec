-- What the counters of a sender say of the totals that they stand for.
use Rattle.std.proofs.Common.{◌≡◌, ℕ, ◌+◌, ◌-◌, ◌/◌, ◌%◌, ◌<◌, ◌≤◌, ◌↔◌, Bool, IsTrue, refl, sym, ap, ◌∙◌, subst, arith}
use Rattle.std.proofs.Common.{zero, suc, inl, inr, true, false, ◌&&◌}
use Rattle.std.proofs.Math.Nat.{mod-add-mod}
use Rattle.std.proofs.lemmas.Bool.{cases_lt}
use Rattle.credit.specs.Counter.{distance}
use Rattle.credit.specs.Kinds.{Class, Cost, Kind, size_of, amount_of, cost_of}
use Rattle.credit.specs.Limits.{Counters, Credits, Ledger, credits_at, at, counted, zero_counters, left_of, MayStart, IsInRange, HasRoom, IsUpdate}
use Rattle.credit.specs.Totals.{Count, StandsFor, IsAllowed, PassesGate, with_cost}
use Rattle.credit.proofs.Distances.{distance-totals, distance-spent, distance-zero, distance-gate}
use Rattle.credit.proofs.Counting.{at-counted, size_positive, Count-counted, covers-all, where_same-le}

-- a bound on a cost is needed where there is a cost
le_from_positive : (x m : ℕ) → (0 < x → x ≤ m) → x ≤ m
le_from_positive zero m h = omega arith
le_from_positive (suc x) m h = h (omega arith)

half : (k : Kind) → size_of k / 2 + size_of k / 2 ≡ size_of k
half (Kind.Headers c) = refl
half (Kind.Data c) = refl

-- what is left is what the totals leave
left-totals : (sent limit : Kind → ℕ) (s : Ledger) → IsInRange s → StandsFor sent limit s → (k : Kind) → left_of s k ≡ limit k - sent k
left-totals sent limit s range stands k =
    let counts = stands.sent_counted k in
    let limits = stands.limit_counted k in
    let between = stands.in_range k in
    let start = (range k).start in
    let halves = half k in
    let high : limit k < sent k + size_of k = omega arith in
    ap (λ m. distance (size_of k) m (at s.credit_limit k)) counts
    ∙ (ap (λ m. distance (size_of k) (sent k % size_of k) m) limits ∙ distance-totals (size_of k) (sent k) (limit k) between.0 high)

pub through : {P Q R : Type 0} → P ↔ Q → Q ↔ R → P ↔ R
through pq qr = (λ p. qr.0 (pq.0 p), λ r. pq.1 (qr.1 r))

-- a test of the two counters of the packet's class is one of all six
pub room-exact : (s : Ledger) (cost : Cost) (payload : ℕ) (answer : Bool) (sent limit : Credits) → payload ≡ cost.data → sent ≡ credits_at s.credits_consumed cost.class → limit ≡ credits_at s.credit_limit cost.class
    → IsTrue answer ↔ (1 ≤ distance 256 sent.headers limit.headers) × (payload ≤ distance 4096 sent.payload limit.payload)
    → IsTrue answer ↔ HasRoom s cost
room-exact s cost payload answer sent limit same sent_is limit_is tells =
    let covers = subst (λ (d : ℕ). IsTrue answer ↔ (1 ≤ distance 256 sent.headers limit.headers) × (d ≤ distance 4096 sent.payload limit.payload)) same tells in
    let P : Credits → Type 0 = λ x. IsTrue answer ↔ (1 ≤ distance 256 x.headers limit.headers) × (cost.data ≤ distance 4096 x.payload limit.payload) in
    let Q : Credits → Type 0 = λ x. IsTrue answer ↔ (1 ≤ distance 256 (credits_at s.credits_consumed cost.class).headers x.headers) × (cost.data ≤ distance 4096 (credits_at s.credits_consumed cost.class).payload x.payload) in
    through (subst Q limit_is (subst P sent_is covers)) (covers-all cost.class cost.data (left_of s))

pub room-allowed : (sent limit : Kind → ℕ) (s : Ledger) (cost : Cost) → IsInRange s → StandsFor sent limit s → HasRoom s cost ↔ IsAllowed sent limit cost
room-allowed sent limit s cost range stands = (forth, back)
  where
    forth : HasRoom s cost → IsAllowed sent limit cost
    forth room k costs =
        let left = left-totals sent limit s range stands k in
        let between = stands.in_range k in
        let covered = room k in
        omega arith

    back : IsAllowed sent limit cost → HasRoom s cost
    back allowed k =
        let left = left-totals sent limit s range stands k in
        let between = stands.in_range k in
        le_from_positive (cost_of cost k) (left_of s k) (λ costs. let covered = allowed k costs in omega arith)

-- of d credits that are left and c that are required, both below half a counter, the gate g tells which is more
gate_tells : (n half d c g : ℕ) → half + half ≡ n → c < half → d < half → (c ≤ d → g ≡ d - c) → (d < c → g ≡ n - (c - d)) → (g ≤ half) ↔ (c ≤ d)
gate_tells n half d c g halves small low room short = (
  (λ passes. elim (cases_lt d c) [ inl less ↦ (let is = short less in omega arith) | inr more ↦ more ]),
  (λ fits. let is = room fits in omega arith),
)

-- the standard's test at one kind
gate_at : (sent limit : Kind → ℕ) (s : Ledger) → IsInRange s → StandsFor sent limit s → (k : Kind) (c : ℕ) → c < size_of k / 2
    → (distance (size_of k) ((at s.credits_consumed k + c) % size_of k) (at s.credit_limit k) ≤ size_of k / 2) ↔ (c ≤ left_of s k)
gate_at sent limit s range stands k c small =
    let left = left-totals sent limit s range stands k in
    let between = stands.in_range k in
    let start = (range k).start in
    let halves = half k in
    let cost_small : c + c < size_of k = omega arith in
    let left_low : limit k - sent k < size_of k / 2 = omega arith in
    let left_small : (limit k - sent k) + (limit k - sent k) < size_of k = omega arith in
    let total : sent k + (limit k - sent k) ≡ limit k = omega arith in
    let gates = distance-gate (size_of k) (sent k) (limit k - sent k) c cost_small left_small in
    let is : distance (size_of k) ((at s.credits_consumed k + c) % size_of k) (at s.credit_limit k) ≡ distance (size_of k) ((sent k + c) % size_of k) ((sent k + (limit k - sent k)) % size_of k) =
    ap (λ m. distance (size_of k) ((m + c) % size_of k) (at s.credit_limit k)) (stands.sent_counted k)
    ∙ (ap (λ m. distance (size_of k) m (at s.credit_limit k)) (mod-add-mod (sent k) (size_of k) c)
    ∙ ap (λ m. distance (size_of k) ((sent k + c) % size_of k) m) (stands.limit_counted k ∙ ap (λ m. m % size_of k) (sym total))) in
    let P : ℕ → Type 0 = λ d. (distance (size_of k) ((at s.credits_consumed k + c) % size_of k) (at s.credit_limit k) ≤ size_of k / 2) ↔ (c ≤ d) in
    subst P (sym left) (gate_tells (size_of k) (size_of k / 2) (limit k - sent k) c _ halves small left_low (λ room. is ∙ gates.0 room) (λ short. is ∙ gates.1 short))

below_half : (class : Class) (n : ℕ) → n < 2048 → (k : Kind) → amount_of class n k < size_of k / 2
below_half class n h (Kind.Headers c) = let le = where_same-le class c 1 in omega arith
below_half class n h (Kind.Data c) = let le = where_same-le class c n in omega arith

pub room-gate : (sent limit : Kind → ℕ) (s : Ledger) (cost : Cost) → IsInRange s → StandsFor sent limit s → cost.data < 2048 → HasRoom s cost ↔ PassesGate s cost
room-gate sent limit s cost range stands small = (forth, back)
  where
    forth : HasRoom s cost → PassesGate s cost
    forth room k costs = (gate_at sent limit s range stands k (cost_of cost k) (below_half cost.class cost.data small k)).1 (room k)

    back : PassesGate s cost → HasRoom s cost
    back passes k = le_from_positive (cost_of cost k) (left_of s k)
        (λ costs. (gate_at sent limit s range stands k (cost_of cost k) (below_half cost.class cost.data small k)).0 (passes k costs))

pub spent-in_range : (s : Ledger) (cost : Cost) → IsInRange s → HasRoom s cost → IsInRange (record s { credits_consumed = counted s.credits_consumed cost })
spent-in_range s cost range room k =
    let is = at-counted s.credits_consumed cost k (range k).counter in
    let positive = size_positive k in
    let left : distance (size_of k) (at (counted s.credits_consumed cost) k) (at s.credit_limit k) ≡ left_of s k - cost_of cost k =
    ap (λ m. distance (size_of k) m (at s.credit_limit k)) is ∙ distance-spent (size_of k) (at s.credits_consumed k) (at s.credit_limit k) (cost_of cost k) (range k).counter (room k) in
    let before = (range k).left in
    record { counter = omega arith; left = omega arith; start = (range k).start }

pub spent-stands : (sent limit : Kind → ℕ) (s : Ledger) (cost : Cost) → IsInRange s → HasRoom s cost → StandsFor sent limit s → StandsFor (with_cost sent cost) limit (record s { credits_consumed = counted s.credits_consumed cost })
spent-stands sent limit s cost range room stands = record {
  sent_counted = Count-counted sent s.credits_consumed cost stands.sent_counted;
  limit_counted = stands.limit_counted;
  in_range = λ k.
      let left = left-totals sent limit s range stands k in
      let between = stands.in_range k in
      let covered = room k in
      (omega arith, omega arith);
}

pub at-zero : (k : Kind) → at zero_counters k ≡ 0
at-zero (Kind.Headers Class.Posted) = refl
at-zero (Kind.Headers Class.NonPosted) = refl
at-zero (Kind.Headers Class.Completion) = refl
at-zero (Kind.Data Class.Posted) = refl
at-zero (Kind.Data Class.NonPosted) = refl
at-zero (Kind.Data Class.Completion) = refl

pub start-in_range : (limits : Counters) → MayStart limits → IsInRange (record { credits_consumed = zero_counters; credit_limit = limits; start = limits })
start-in_range limits may k =
    let start = may k in
    let halves = half k in
    let small : at limits k < size_of k = omega arith in
    let left : distance (size_of k) (at zero_counters k) (at limits k) ≡ at limits k = ap (λ m. distance (size_of k) m (at limits k)) (at-zero k) ∙ distance-zero (size_of k) (at limits k) small in
    let zero_is = at-zero k in
    record { counter = omega arith; left = omega arith; start = start }

pub update-in_range : (s : Ledger) (limits : Counters) → IsInRange s → IsUpdate s limits → IsInRange (record s { credit_limit = limits })
update-in_range s limits range update k = record { counter = (range k).counter; left = (update k).1; start = (range k).start }

-- limits whose totals are in range are taken, and the sender then stands for them
pub advertised-update : (sent limit advertised : Kind → ℕ) (s : Ledger) (limits : Counters) → IsInRange s → StandsFor sent limit s → Count advertised limits
    → ((k : Kind) → (limit k ≤ advertised k) × (advertised k ≤ sent k + at s.start k)) → IsUpdate s limits
advertised-update sent limit advertised s limits range stands counts grows k =
    let left = left-totals sent limit s range stands k in
    let between = stands.in_range k in
    let further = grows k in
    let start = (range k).start in
    let halves = half k in
    let high : advertised k < sent k + size_of k = omega arith in
    let low : sent k ≤ advertised k = omega arith in
    let new : distance (size_of k) (at s.credits_consumed k) (at limits k) ≡ advertised k - sent k =
    ap (λ m. distance (size_of k) m (at limits k)) (stands.sent_counted k)
    ∙ (ap (λ m. distance (size_of k) (sent k % size_of k) m) (counts k) ∙ distance-totals (size_of k) (sent k) (advertised k) low high) in
    (omega arith, omega arith)

-- new limits of one class
abbrev pub IsUpdateOf : Ledger → Counters → Class → Type 0
IsUpdateOf s limits c =
    (left_of s (Kind.Headers c) ≤ distance 256 (at s.credits_consumed (Kind.Headers c)) (at limits (Kind.Headers c))) ×
    (distance 256 (at s.credits_consumed (Kind.Headers c)) (at limits (Kind.Headers c)) ≤ at s.start (Kind.Headers c)) ×
    (left_of s (Kind.Data c) ≤ distance 4096 (at s.credits_consumed (Kind.Data c)) (at limits (Kind.Data c))) ×
    (distance 4096 (at s.credits_consumed (Kind.Data c)) (at limits (Kind.Data c)) ≤ at s.start (Kind.Data c))

update_of : (s : Ledger) (limits : Counters) → IsUpdate s limits → (c : Class) → IsUpdateOf s limits c
update_of s limits h c = ((h (Kind.Headers c)).0, (h (Kind.Headers c)).1, (h (Kind.Data c)).0, (h (Kind.Data c)).1)

from_classes : (s : Ledger) (limits : Counters) → ((c : Class) → IsUpdateOf s limits c) → IsUpdate s limits
from_classes s limits h (Kind.Headers c) = ((h c).0, (h c).1)
from_classes s limits h (Kind.Data c) = ((h c).2, (h c).3)

all_three : (P : Class → Type 0) (posted non_posted completion : Bool) → IsTrue posted ↔ P Class.Posted → IsTrue non_posted ↔ P Class.NonPosted → IsTrue completion ↔ P Class.Completion
    → IsTrue ((posted && non_posted) && completion) ↔ ((c : Class) → P c)
all_three P true true true p n c = (λ t k. elim k as (λ x. P x) [ Class.Posted ↦ p.0 refl | Class.NonPosted ↦ n.0 refl | Class.Completion ↦ c.0 refl ], λ h. refl)
all_three P true true false p n c = (λ t. cc, λ h. c.1 (h Class.Completion))
all_three P true false b p n c = (λ t. cc, λ h. (let no = n.1 (h Class.NonPosted) in cc))
all_three P false b d p n c = (λ t. cc, λ h. (let no = p.1 (h Class.Posted) in cc))

-- an update is one of each class
pub update-exact : (s : Ledger) (limits : Counters) (posted non_posted completion : Bool) → IsTrue posted ↔ IsUpdateOf s limits Class.Posted → IsTrue non_posted ↔ IsUpdateOf s limits Class.NonPosted → IsTrue completion ↔ IsUpdateOf s limits Class.Completion
    → IsTrue ((posted && non_posted) && completion) ↔ IsUpdate s limits
update-exact s limits posted non_posted completion p n c =
    through (all_three (IsUpdateOf s limits) posted non_posted completion p n c) (from_classes s limits, update_of s limits)
