-- What each step makes of the parts is what may happen on a link.
use Rattle.std.proofs.Common.{◌≡◌, ◌≢◌, ℕ, ◌-◌, ◌≤◌, Bool, true, false, cond, List, [], ◌∷◌, ◌++◌, Option, Some, None, refl, sym, ap, ◌∙◌, subst, arith}
use Rattle.frame_log.specs.Descriptor.{Descriptor}
use Rattle.credit.specs.Counter.{distance}
use Rattle.credit.specs.Kinds.{Class, Cost, Kind, size_of, cost_of}
use Rattle.credit.specs.Limits.{Ledger, at, counted, left_of, IsInRange, HasRoom, left_counters}
use Rattle.credit.specs.declared.counters.Counters.{Counters}
use Rattle.credit.proofs.Counting.{at-counted, covers-all}
use Rattle.credit.proofs.Distances.{distance-spent, distance-same}
use Rattle.lane.specs.Lanes.{eligible}
use Rattle.link.specs.Channels.{Channel, has_room, spent, unspent, same_counters, total, sent_on, send, received_of, deliver, advertised_of, update_fc}
use Rattle.link.specs.Simplexes.{IsCounted}
use Rattle.link.specs.Steps.{IsStuck, Delivers, Transmits}
use Rattle.link.proofs.Credits.{at-left, same-at, at-spent, at-unspent, both-true, true-both, true-same, same-self}

-- a link as its parts make it
abbrev pub link_of : Ledger → List Descriptor → List Descriptor → List Descriptor → Channel
link_of s egress wire ingress = record { start = s.start; left = left_counters s.credits_consumed s.credit_limit; egress = egress; wire = wire; ingress = ingress }

-- ---- credits

-- the credits that are left cover a cost where the sender has room
pub room-left : (s : Ledger) (cost : Cost) → HasRoom s cost → has_room (left_counters s.credits_consumed s.credit_limit) cost ≡ true
room-left s cost room =
    let both = (covers-all cost.class cost.data (left_of s)).1 room in
    let header = at-left s.credits_consumed s.credit_limit (Kind.Headers cost.class) in
    let payload = at-left s.credits_consumed s.credit_limit (Kind.Data cost.class) in
    both-true 1 (at (left_counters s.credits_consumed s.credit_limit) (Kind.Headers cost.class)) cost.data (at (left_counters s.credits_consumed s.credit_limit) (Kind.Data cost.class))
    (subst (λ (n : ℕ). 1 ≤ n) (sym header) both.0) (subst (λ (n : ℕ). cost.data ≤ n) (sym payload) both.1)

pub left-room : (s : Ledger) (cost : Cost) → has_room (left_counters s.credits_consumed s.credit_limit) cost ≡ true → HasRoom s cost
left-room s cost h =
    let both = true-both 1 (at (left_counters s.credits_consumed s.credit_limit) (Kind.Headers cost.class)) cost.data (at (left_counters s.credits_consumed s.credit_limit) (Kind.Data cost.class)) h in
    let header = at-left s.credits_consumed s.credit_limit (Kind.Headers cost.class) in
    let payload = at-left s.credits_consumed s.credit_limit (Kind.Data cost.class) in
    (covers-all cost.class cost.data (left_of s)).0 (subst (λ (n : ℕ). 1 ≤ n) header both.0, subst (λ (n : ℕ). cost.data ≤ n) payload both.1)

-- what is left once a packet is counted is what is left without its cost
left_spent : (s : Ledger) (cost : Cost) → IsInRange s → HasRoom s cost → spent (left_counters s.credits_consumed s.credit_limit) cost ≡ left_counters (counted s.credits_consumed cost) s.credit_limit
left_spent s cost range room = same-at (spent (left_counters s.credits_consumed s.credit_limit) cost) (left_counters (counted s.credits_consumed cost) s.credit_limit)
    (λ k. at-spent (left_counters s.credits_consumed s.credit_limit) cost k
    ∙ (ap (λ n. n - cost_of cost k) (at-left s.credits_consumed s.credit_limit k)
    ∙ (sym (distance-spent (size_of k) (at s.credits_consumed k) (at s.credit_limit k) (cost_of cost k) (range k).counter (room k))
    ∙ (ap (λ m. distance (size_of k) m (at s.credit_limit k)) (sym (at-counted s.credits_consumed cost k (range k).counter))
    ∙ sym (at-left (counted s.credits_consumed cost) s.credit_limit k)))))

-- the receiver's limits leave the start without what travels and waits
advertised_left : (s : Ledger) (limit : Counters) (behind : List Descriptor) → IsCounted s limit behind → left_counters s.credits_consumed limit ≡ unspent s.start behind
advertised_left s limit behind kept = same-at (left_counters s.credits_consumed limit) (unspent s.start behind)
    (λ k. let freed = kept.freed k in
    let left : distance (size_of k) (at s.credits_consumed k) (at limit k) ≡ at s.start k - total k behind = omega arith in
    at-left s.credits_consumed limit k ∙ (left ∙ sym (at-unspent s.start behind k)))

-- ---- send

sent_at : (c : Channel) (f : Descriptor) (rest : List Descriptor) (b : Bool) → has_room c.left f.head.cost ≡ b → b ≡ true
    → sent_on c (Some (f, rest)) ≡ Some (record { start = c.start; left = spent c.left f.head.cost; egress = rest; wire = c.wire ++ f ∷ []; ingress = c.ingress })
sent_at c f rest b is has =
    ap (λ (x : Bool). cond x (Some (record { start = c.start; left = spent c.left f.head.cost; egress = rest; wire = c.wire ++ f ∷ []; ingress = c.ingress })) None) (is ∙ has)

pub send-some : (class : Class) (s s' : Ledger) (egress egress' wire wire' ingress : List Descriptor) → IsInRange s → Transmits class egress s wire egress' s' wire'
    → send class (link_of s egress wire ingress) ≡ Some (link_of s' egress' wire' ingress)
send-some class s s' egress egress' wire wire' ingress range went =
    let f = went.frame in
    let c = link_of s egress wire ingress in
    let after : spent (left_counters s.credits_consumed s.credit_limit) f.head.cost ≡ left_counters (counted s.credits_consumed f.head.cost) s.credit_limit = left_spent s f.head.cost range went.sends.room in
    let spends : record s { credits_consumed = counted s.credits_consumed f.head.cost } ≡ s' = sym went.sends.spends in
    ap (sent_on c) went.sends.taken
    ∙ (sent_at c f egress' (has_room c.left f.head.cost) refl (room-left s f.head.cost went.sends.room)
    ∙ (ap (λ (left : Counters). Some (record c { left = left; egress = egress'; wire = wire ++ f ∷ [] })) after
    ∙ (ap (λ (t : Ledger). Some (link_of t egress' (wire ++ f ∷ []) ingress)) spends
    ∙ ap (λ (w : List Descriptor). Some (link_of s' egress' w ingress)) (sym went.behind))))

stuck_at : (c : Channel) (f : Descriptor) (rest : List Descriptor) (b : Bool) → has_room c.left f.head.cost ≡ b → (b ≡ true → ⊥) → sent_on c (Some (f, rest)) ≡ None
stuck_at c f rest true is never = absurd (never refl)
stuck_at c f rest false is never = ap (λ (x : Bool). cond x (Some (record { start = c.start; left = spent c.left f.head.cost; egress = rest; wire = c.wire ++ f ∷ []; ingress = c.ingress })) None) is

stuck_on : (c : Channel) (o : Option (Descriptor × List Descriptor)) → ((f : Descriptor) (rest : List Descriptor) → o ≡ Some (f, rest) → has_room c.left f.head.cost ≡ true → ⊥) → sent_on c o ≡ None
stuck_on c None never = refl
stuck_on c (Some taken) never = stuck_at c taken.0 taken.1 (has_room c.left taken.0.head.cost) refl (never taken.0 taken.1 refl)

pub send-none : (class : Class) (s : Ledger) (egress wire ingress : List Descriptor) → IsStuck class egress s → send class (link_of s egress wire ingress) ≡ None
send-none class s egress wire ingress stuck =
    stuck_on (link_of s egress wire ingress) (eligible class egress) (λ f rest e room. stuck f rest e (left-room s f.head.cost room))

-- ---- deliver

pub deliver-some : (s : Ledger) (egress wire wire' ingress ingress' : List Descriptor) → Delivers wire ingress wire' ingress' → deliver (link_of s egress wire ingress) ≡ Some (link_of s egress wire' ingress')
deliver-some s egress wire wire' ingress ingress' went =
    ap (λ (w : List Descriptor). received_of (link_of s egress w ingress) w) went.oldest
    ∙ ap (λ (i : List Descriptor). Some (link_of s egress wire' i)) (sym went.behind)

pub deliver-none : (s : Ledger) (egress wire ingress : List Descriptor) → wire ≡ [] → deliver (link_of s egress wire ingress) ≡ None
deliver-none s egress wire ingress e = ap (λ (w : List Descriptor). received_of (link_of s egress w ingress) w) e

-- ---- update_fc

advertised_at : (c : Channel) (most : Counters) (b : Bool) → same_counters c.left most ≡ b → advertised_of c most ≡ cond b None (Some (record { start = c.start; left = most; egress = c.egress; wire = c.wire; ingress = c.ingress }))
advertised_at c most b is = ap (λ (x : Bool). cond x None (Some (record { start = c.start; left = most; egress = c.egress; wire = c.wire; ingress = c.ingress }))) is

-- limits that leave as much are the same
limits_same : (s : Ledger) (limit : Counters) (behind : List Descriptor) → IsCounted s limit behind → same_counters (left_counters s.credits_consumed s.credit_limit) (left_counters s.credits_consumed limit) ≡ true → limit ≡ s.credit_limit
limits_same s limit behind kept h = same-at limit s.credit_limit
    (λ k. distance-same (size_of k) (at s.credits_consumed k) (at limit k) (at s.credit_limit k) (kept.range k).counter (kept.bounded k) (kept.known k)
    (sym (at-left s.credits_consumed limit k) ∙ (sym (true-same (left_counters s.credits_consumed s.credit_limit) (left_counters s.credits_consumed limit) h k) ∙ at-left s.credits_consumed s.credit_limit k)))

differs : (b : Bool) → (b ≡ true → ⊥) → b ≡ false
differs true never = absurd (never refl)
differs false never = refl

advertised_limit : (s : Ledger) (limit : Counters) (egress wire ingress : List Descriptor) → IsCounted s limit (wire ++ ingress) → limit ≢ s.credit_limit
    → advertised_of (link_of s egress wire ingress) (left_counters s.credits_consumed limit) ≡ Some (link_of (record s { credit_limit = limit }) egress wire ingress)
advertised_limit s limit egress wire ingress kept other =
    advertised_at (link_of s egress wire ingress) (left_counters s.credits_consumed limit) false
    (differs (same_counters (left_counters s.credits_consumed s.credit_limit) (left_counters s.credits_consumed limit)) (λ h. other (limits_same s limit (wire ++ ingress) kept h)))

pub update_fc-some : (s s' : Ledger) (limit : Counters) (egress wire ingress : List Descriptor) → IsCounted s limit (wire ++ ingress) → s' ≡ record s { credit_limit = limit } → limit ≢ s.credit_limit
    → update_fc (link_of s egress wire ingress) ≡ Some (link_of s' egress wire ingress)
update_fc-some s s' limit egress wire ingress kept new other =
    ap (advertised_of (link_of s egress wire ingress)) (sym (advertised_left s limit (wire ++ ingress) kept))
    ∙ (advertised_limit s limit egress wire ingress kept other ∙ ap (λ (t : Ledger). Some (link_of t egress wire ingress)) (sym new))

pub update_fc-none : (s : Ledger) (limit : Counters) (egress wire ingress : List Descriptor) → IsCounted s limit (wire ++ ingress) → limit ≡ s.credit_limit → update_fc (link_of s egress wire ingress) ≡ None
update_fc-none s limit egress wire ingress kept same =
    ap (advertised_of (link_of s egress wire ingress)) (sym (advertised_left s limit (wire ++ ingress) kept))
    ∙ (ap (λ (l : Counters). advertised_of (link_of s egress wire ingress) (left_counters s.credits_consumed l)) same
    ∙ advertised_at (link_of s egress wire ingress) (left_counters s.credits_consumed s.credit_limit) true (same-self (left_counters s.credits_consumed s.credit_limit)))
