-- The steps of a link, from what each leaves of the parts to what it keeps and what happened.
use Rattle.std.proofs.Common.{◌≡◌, ◌≢◌, ℕ, ◌+◌, ◌-◌, ◌≤◌, Bool, true, false, cond, List, [], ◌∷◌, ◌++◌, Option, Some, None, refl, sym, ap, ◌∙◌, subst, arith}
use Rattle.std.specs.Prelude.{MatchBool, MatchOption, IfSome, IsSome, is_none, slice_get}
use Rattle.frame_log.specs.Descriptor.{Descriptor}
use Rattle.credit.specs.Kinds.{Class, Cost, Kind, cost_of}
use Rattle.credit.specs.Limits.{Ledger, at, counted, uncounted, zero_counters, left_of, MayStart, left_counters}
use Rattle.credit.specs.declared.counters.Counters.{Counters}
use Rattle.credit.proofs.Counting.{covers-all}
use Rattle.port_queue.specs.Queue.{Queue}
use Rattle.lane.specs.Lanes.{eligible}
use Rattle.lane.specs.Queues.{frames_of, frames_restored}
use Rattle.link.specs.Channels.{IsCovered, count_in, send, deliver, update_fc, total}
use Rattle.link.specs.Ends.{EgressView, IngressView}
use Rattle.link.specs.Simplexes.{IsCounted, has_place}
use Rattle.link.specs.Steps.{IsStuck, Delivers, Transmits}
use Rattle.link.proofs.Totals.{count_in-total, total-append, total-sent, total-delivered, total-taken, total-restored}
use Rattle.link.proofs.Credits.{at-left, both-true, true-both}
use Rattle.link.proofs.Keeping.{counted-places, start-counted, moved-counted, spent-counted, advertised-counted, freed-counted, reclaimed-counted}
use Rattle.link.proofs.Moving.{link_of, send-some, send-none, deliver-some, deliver-none, update_fc-some, update_fc-none}

-- ---- the start

pub started : (limits : Counters) (egress : EgressView) (wire : List Descriptor) (ingress : IngressView) → MayStart limits
    → egress ≡ record { queue = record { queue = record { waiting = []; gap = None }; misses = 0; refusals = 0 }; sender = record { credits_consumed = zero_counters; credit_limit = limits; start = limits } }
    → wire ≡ []
    → ingress ≡ record { queue = record { queue = record { waiting = []; gap = None }; misses = 0; refusals = 0 }; receiver = record { credits_received = zero_counters; credits_allocated = limits } }
    → IsCounted egress.sender ingress.receiver.credits_allocated (wire ++ frames_of ingress.queue.queue.waiting)
started limits egress wire ingress may egress_is wire_is ingress_is =
    rw (egress_is, wire_is, ingress_is) (start-counted limits may)

-- ---- what always holds

pub covers-left : (s : Ledger) (limit : Counters) (egress wire ingress : List Descriptor) → IsCounted s limit (wire ++ ingress) → IsCovered (link_of s egress wire ingress)
covers-left s limit egress wire ingress kept k =
    let covered = kept.covered k in
    let left = at-left s.credits_consumed s.credit_limit k in
    omega arith

pub few-left : (s : Ledger) (limit : Counters) (behind : List Descriptor) → IsCounted s limit behind → (k : Kind) → at (left_counters s.credits_consumed s.credit_limit) k ≤ at s.start k
few-left s limit behind kept k =
    let covered = kept.covered k in
    let left = at-left s.credits_consumed s.credit_limit k in
    omega arith

pub few-behind : (s : Ledger) (limit : Counters) (behind : List Descriptor) → IsCounted s limit behind → (class : Class) → count_in class behind ≤ 127
few-behind s limit behind kept class =
    let places = counted-places s limit behind class kept in
    let counts = count_in-total class behind in
    omega arith

-- ---- what is sent

same_link : (s s' : Ledger) (egress egress' wire wire' ingress ingress' : List Descriptor) → s' ≡ s → egress' ≡ egress → wire' ≡ wire → ingress' ≡ ingress → link_of s' egress' wire' ingress' ≡ link_of s egress wire ingress
same_link s s' egress egress' wire wire' ingress ingress' sender waits travels arrived =
    ap (λ (t : Ledger). link_of t egress' wire' ingress') sender
    ∙ (ap (λ (x : List Descriptor). link_of s x wire' ingress') waits
    ∙ (ap (λ (x : List Descriptor). link_of s egress x ingress') travels ∙ ap (λ (x : List Descriptor). link_of s egress wire x) arrived))

pub sent : (class : Class) (answer : Bool) (s s' : Ledger) (limit : Counters) (egress egress' wire wire' ingress : List Descriptor) → IsCounted s limit (wire ++ ingress)
    → (answer ≡ true → Transmits class egress s wire egress' s' wire')
    → (answer ≡ false → IsStuck class egress s)
    → (answer ≡ false → (egress' ≡ egress) × (s' ≡ s) × (wire' ≡ wire))
    → MatchBool answer (send class (link_of s egress wire ingress) ≡ Some (link_of s' egress' wire' ingress))
    ((send class (link_of s egress wire ingress) ≡ None) × (link_of s' egress' wire' ingress ≡ link_of s egress wire ingress))
sent class true s s' limit egress egress' wire wire' ingress kept went stuck rests = send-some class s s' egress egress' wire wire' ingress kept.range (went refl)
sent class false s s' limit egress egress' wire wire' ingress kept went stuck rests =
    let r = rests refl in
    (send-none class s egress wire ingress (stuck refl), same_link s s' egress egress' wire wire' ingress ingress r.1 r.0 r.2 refl)

pub sent-kept : (class : Class) (answer : Bool) (s s' : Ledger) (limit : Counters) (egress egress' wire wire' ingress : List Descriptor) → IsCounted s limit (wire ++ ingress)
    → (answer ≡ true → Transmits class egress s wire egress' s' wire')
    → (answer ≡ false → (egress' ≡ egress) × (s' ≡ s) × (wire' ≡ wire))
    → IsCounted s' limit (wire' ++ ingress)
sent-kept class true s s' limit egress egress' wire wire' ingress kept went rests =
    let w = went refl in
    subst (λ (t : Ledger). IsCounted t limit (wire' ++ ingress)) (sym w.sends.spends)
    (spent-counted s limit w.frame.head.cost (wire ++ ingress) (wire' ++ ingress) (λ k. ap (λ (x : List Descriptor). total k (x ++ ingress)) w.behind ∙ total-sent k wire ingress w.frame) w.sends.room kept)
sent-kept class false s s' limit egress egress' wire wire' ingress kept went rests =
    let r = rests refl in
    subst (λ (t : Ledger). IsCounted t limit (wire' ++ ingress)) (sym r.1) (subst (λ (x : List Descriptor). IsCounted s limit (x ++ ingress)) (sym r.2) kept)

-- what was advertised to the sender last stays as it sends
pub sent-advertised : (class : Class) (answer : Bool) (s s' : Ledger) (egress egress' wire wire' : List Descriptor)
    → (answer ≡ true → Transmits class egress s wire egress' s' wire')
    → (answer ≡ false → (egress' ≡ egress) × (s' ≡ s) × (wire' ≡ wire))
    → s'.credit_limit ≡ s.credit_limit
sent-advertised class true s s' egress egress' wire wire' went rests = ap (λ (l : Ledger). l.credit_limit) (went refl).sends.spends
sent-advertised class false s s' egress egress' wire wire' went rests = ap (λ (l : Ledger). l.credit_limit) (rests refl).1

-- ---- what arrives

pub none_waits : (wire wire' : List Descriptor) → slice_get wire 0 ≡ None → wire ≡ wire' → (wire ≡ []) × (wire' ≡ [])
none_waits [] wire' h e = (refl, sym e)
none_waits (x ∷ xs) wire' h e = absurd cc

pub delivered : (answer : Bool) (s : Ledger) (egress wire wire' ingress ingress' : List Descriptor)
    → (answer ≡ true → Delivers wire ingress wire' ingress')
    → (answer ≡ false → (wire ≡ []) × (wire' ≡ []) × (ingress' ≡ ingress))
    → MatchBool answer (deliver (link_of s egress wire ingress) ≡ Some (link_of s egress wire' ingress'))
    ((deliver (link_of s egress wire ingress) ≡ None) × (link_of s egress wire' ingress' ≡ link_of s egress wire ingress))
delivered true s egress wire wire' ingress ingress' went rests = deliver-some s egress wire wire' ingress ingress' (went refl)
delivered false s egress wire wire' ingress ingress' went rests =
    let r = rests refl in
    (deliver-none s egress wire ingress r.0, same_link s s egress egress wire wire' ingress ingress' refl refl (r.1 ∙ sym r.0) r.2)

pub delivered-kept : (answer : Bool) (s : Ledger) (limit : Counters) (wire wire' ingress ingress' : List Descriptor) → IsCounted s limit (wire ++ ingress)
    → (answer ≡ true → Delivers wire ingress wire' ingress')
    → (answer ≡ false → (wire ≡ []) × (wire' ≡ []) × (ingress' ≡ ingress))
    → IsCounted s limit (wire' ++ ingress')
delivered-kept true s limit wire wire' ingress ingress' kept went rests =
    let w = went refl in
    moved-counted s limit (wire ++ ingress) (wire' ++ ingress')
    (λ k. ap (λ (x : List Descriptor). total k (wire' ++ x)) w.behind ∙ (total-delivered k wire' ingress w.frame ∙ ap (λ (x : List Descriptor). total k (x ++ ingress)) (sym w.oldest))) kept
delivered-kept false s limit wire wire' ingress ingress' kept went rests =
    let r = rests refl in
    moved-counted s limit (wire ++ ingress) (wire' ++ ingress')
    (λ k. ap (λ (x : List Descriptor). total k (x ++ ingress')) (r.1 ∙ sym r.0) ∙ ap (λ (x : List Descriptor). total k (wire ++ x)) r.2) kept

-- ---- what is advertised

pub accepted : (answer : Bool) (s s' : Ledger) (limit advertised : Counters) (egress wire ingress : List Descriptor) → IsCounted s limit (wire ++ ingress) → advertised ≡ limit
    → (answer ≡ true → (s' ≡ record s { credit_limit = advertised }) × (advertised ≢ s.credit_limit))
    → (answer ≡ false → (s' ≡ s) × (advertised ≡ s.credit_limit))
    → MatchBool answer (update_fc (link_of s egress wire ingress) ≡ Some (link_of s' egress wire ingress))
    ((update_fc (link_of s egress wire ingress) ≡ None) × (link_of s' egress wire ingress ≡ link_of s egress wire ingress))
accepted true s s' limit advertised egress wire ingress kept is new known =
    let n = new refl in
    update_fc-some s s' advertised egress wire ingress (subst (λ (l : Counters). IsCounted s l (wire ++ ingress)) (sym is) kept) n.0 n.1
accepted false s s' limit advertised egress wire ingress kept is new known =
    let k = known refl in
    (update_fc-none s limit egress wire ingress kept (sym is ∙ k.1), ap (λ (t : Ledger). link_of t egress wire ingress) k.0)

pub accepted-kept : (answer : Bool) (s s' : Ledger) (limit advertised : Counters) (behind : List Descriptor) → IsCounted s limit behind → advertised ≡ limit
    → (answer ≡ true → (s' ≡ record s { credit_limit = advertised }) × (advertised ≢ s.credit_limit))
    → (answer ≡ false → (s' ≡ s) × (advertised ≡ s.credit_limit))
    → IsCounted s' limit behind
accepted-kept true s s' limit advertised behind kept is new known =
    subst (λ (t : Ledger). IsCounted t limit behind) (sym ((new refl).0 ∙ ap (λ (l : Counters). record s { credit_limit = l }) is)) (advertised-counted s limit behind kept)
accepted-kept false s s' limit advertised behind kept is new known =
    subst (λ (t : Ledger). IsCounted t limit behind) (sym (known refl).0) kept

-- to a sender that knows the limit nothing is advertised
-- once the limits were advertised, it knows the receiver's limit
pub accepted-advertised : (answer : Bool) (s s' : Ledger) (limit advertised : Counters) → advertised ≡ limit
    → (answer ≡ true → (s' ≡ record s { credit_limit = advertised }) × (advertised ≢ s.credit_limit))
    → (answer ≡ false → (s' ≡ s) × (advertised ≡ s.credit_limit))
    → limit ≡ s'.credit_limit
accepted-advertised true s s' limit advertised is went rests = sym is ∙ sym (ap (λ (l : Ledger). l.credit_limit) (went refl).0)
accepted-advertised false s s' limit advertised is went rests = sym is ∙ ((rests refl).1 ∙ sym (ap (λ (l : Ledger). l.credit_limit) (rests refl).0))

pub knows-advertised : (answer : Bool) (s : Ledger) (limit advertised : Counters) (egress wire ingress : List Descriptor) → IsCounted s limit (wire ++ ingress) → advertised ≡ limit
    → MatchBool answer (advertised ≡ s.credit_limit) (advertised ≢ s.credit_limit) → answer ≡ is_none (update_fc (link_of s egress wire ingress))
knows-advertised true s limit advertised egress wire ingress kept is known = ap is_none (sym (update_fc-none s limit egress wire ingress kept (sym is ∙ known)))
knows-advertised false s limit advertised egress wire ingress kept is other =
    ap is_none (sym (update_fc-some s (record s { credit_limit = advertised }) advertised egress wire ingress (subst (λ (l : Counters). IsCounted s l (wire ++ ingress)) (sym is) kept) refl other))

-- ---- what leaves, and comes back

-- a packet more of what travels and waits
total-behind : (k : Kind) (wire less more : List Descriptor) (n : ℕ) → total k more ≡ n + total k less → total k (wire ++ more) ≡ n + total k (wire ++ less)
total-behind k wire less more n h =
    let some = total-append k wire more in
    let others = total-append k wire less in
    omega arith

abbrev pub Took : Class → List Descriptor → List Descriptor → Option Descriptor → Type 0
Took class ingress ingress' result = MatchOption result ((eligible class ingress ≡ None) × (ingress' ≡ ingress)) (λ f. eligible class ingress ≡ Some (f, ingress'))

abbrev pub Freed : Counters → Counters → Option Descriptor → Type 0
Freed limit limit' result = MatchOption result (limit' ≡ limit) (λ f. limit' ≡ counted limit f.head.cost)

pub took-kept : (class : Class) (result : Option Descriptor) (s : Ledger) (limit limit' : Counters) (wire ingress ingress' : List Descriptor) → IsCounted s limit (wire ++ ingress)
    → Took class ingress ingress' result → Freed limit limit' result → IsCounted s limit' (wire ++ ingress')
took-kept class None s limit limit' wire ingress ingress' kept took freed =
    subst (λ (l : Counters). IsCounted s l (wire ++ ingress')) (sym freed) (subst (λ (x : List Descriptor). IsCounted s limit (wire ++ x)) (sym took.1) kept)
took-kept class (Some f) s limit limit' wire ingress ingress' kept took freed =
    subst (λ (l : Counters). IsCounted s l (wire ++ ingress')) (sym freed)
    (freed-counted s limit f.head.cost (wire ++ ingress) (wire ++ ingress') (λ k. total-behind k wire ingress' ingress (cost_of f.head.cost k) (total-taken k class ingress ingress' f took)) kept)

-- what a kind's start leaves beside the credits that are left, and all that travels and waits
abbrev spare : Ledger → List Descriptor → Kind → ℕ
spare s behind k = at s.start k - (left_of s k + total k behind)

place-true : (s : Ledger) (egress wire ingress : List Descriptor) (cost : Cost) → ((k : Kind) → left_of s k + (cost_of cost k + total k (wire ++ ingress)) ≤ at s.start k) → has_place (link_of s egress wire ingress) cost ≡ true
place-true s egress wire ingress cost room =
    let both = (covers-all cost.class cost.data (spare s (wire ++ ingress))).1 (λ k. let r = room k in omega arith) in
    let first = both.0 in let second = both.1 in
    let headers = room (Kind.Headers cost.class) in
    let payload = room (Kind.Data cost.class) in
    let header_left = at-left s.credits_consumed s.credit_limit (Kind.Headers cost.class) in
    let payload_left = at-left s.credits_consumed s.credit_limit (Kind.Data cost.class) in
    both-true
    (at (left_counters s.credits_consumed s.credit_limit) (Kind.Headers cost.class) + total (Kind.Headers cost.class) (wire ++ ingress) + 1) (at s.start (Kind.Headers cost.class))
    (at (left_counters s.credits_consumed s.credit_limit) (Kind.Data cost.class) + total (Kind.Data cost.class) (wire ++ ingress) + cost.data) (at s.start (Kind.Data cost.class))
    (omega arith) (omega arith)

true-place : (s : Ledger) (limit : Counters) (egress wire ingress : List Descriptor) (cost : Cost) → IsCounted s limit (wire ++ ingress) → has_place (link_of s egress wire ingress) cost ≡ true
    → (k : Kind) → left_of s k + (cost_of cost k + total k (wire ++ ingress)) ≤ at s.start k
true-place s limit egress wire ingress cost kept h k =
    let both = true-both
    (at (left_counters s.credits_consumed s.credit_limit) (Kind.Headers cost.class) + total (Kind.Headers cost.class) (wire ++ ingress) + 1) (at s.start (Kind.Headers cost.class))
    (at (left_counters s.credits_consumed s.credit_limit) (Kind.Data cost.class) + total (Kind.Data cost.class) (wire ++ ingress) + cost.data) (at s.start (Kind.Data cost.class)) h in
    let first = both.0 in let second = both.1 in
    let header_left = at-left s.credits_consumed s.credit_limit (Kind.Headers cost.class) in
    let payload_left = at-left s.credits_consumed s.credit_limit (Kind.Data cost.class) in
    let within = (covers-all cost.class cost.data (spare s (wire ++ ingress))).0 (omega arith, omega arith) k in
    let covered = kept.covered k in
    omega arith

-- right after a take there is a place for what was taken
pub took-restores : (class : Class) (result : Option Descriptor) (s : Ledger) (limit : Counters) (egress wire ingress ingress' : List Descriptor) (queue : Queue Descriptor) → IsCounted s limit (wire ++ ingress)
    → Took class ingress ingress' result → IfSome result (λ f. frames_restored queue f ≡ Some ingress)
    → IfSome result (λ f. cond (has_place (link_of s egress wire ingress') f.head.cost) (frames_restored queue f) None ≡ Some ingress)
took-restores class None s limit egress wire ingress ingress' queue kept took restores = tt
took-restores class (Some f) s limit egress wire ingress ingress' queue kept took restores =
    ap (λ (b : Bool). cond b (frames_restored queue f) None)
    (place-true s egress wire ingress' f.head.cost
    (λ k. let covered = kept.covered k in let more = total-behind k wire ingress' ingress (cost_of f.head.cost k) (total-taken k class ingress ingress' f took) in omega arith))
    ∙ restores

some_place : (b : Bool) (o : Option (List Descriptor)) → IsSome (cond b o None) → b ≡ true
some_place true o h = refl
some_place false o h = cc

pub gave-kept : (f : Descriptor) (s : Ledger) (limit limit' : Counters) (egress wire : List Descriptor) (queue : Queue Descriptor) (ingress' : List Descriptor) → IsCounted s limit (wire ++ frames_of queue.waiting)
    → IsSome (cond (has_place (link_of s egress wire (frames_of queue.waiting)) f.head.cost) (frames_restored queue f) None) → frames_restored queue f ≡ Some ingress' → limit' ≡ uncounted limit f.head.cost
    → IsCounted s limit' (wire ++ ingress')
gave-kept f s limit limit' egress wire queue ingress' kept place restored reclaimed =
    let more = λ (k : Kind). total-behind k wire (frames_of queue.waiting) ingress' (cost_of f.head.cost k) (total-restored k queue f ingress' restored) in
    let has = some_place (has_place (link_of s egress wire (frames_of queue.waiting)) f.head.cost) (frames_restored queue f) place in
    subst (λ (l : Counters). IsCounted s l (wire ++ ingress')) (sym reclaimed)
    (reclaimed-counted s limit f.head.cost (wire ++ frames_of queue.waiting) (wire ++ ingress') more
    (λ k. let room = true-place s limit egress wire (frames_of queue.waiting) f.head.cost kept has k in let is = more k in omega arith) kept)
