-- What happens on one direction of a link keeps its credits within the start (PCIe 4.0, 2.6.1).
use Rattle.std.proofs.Common.{◌≡◌, ◌+◌, ◌<◌, ◌≤◌, Bool, true, false, cond, List, [], ◌∷◌, ◌++◌, Option, Some, None, refl, subst, arith}
use Rattle.frame_log.specs.Descriptor.{Descriptor}
use Rattle.credit.specs.Kinds.{Class, Cost, Kind, cost_of}
use Rattle.credit.specs.Limits.{MayStart, at}
use Rattle.credit.specs.declared.counters.Counters.{Counters}
use Rattle.credit.proofs.Counting.{covers-all}
use Rattle.lane.specs.Lanes.{eligible}
use Rattle.link.specs.Channels.{Channel, IsBounded, IsCovered, deliver, has_room, received_of, same_counters, send, sent_on, spent, total, unspent, update_fc, with_egress}
use Rattle.link.proofs.Credits.{at-spent, at-unspent, true-both}
use Rattle.link.proofs.Totals.{count_in-total, total-append, total-delivered, total-sent, total-taken}
use Rattle.interconnect.specs.Moves.{with_ingress}

abbrev some : {A : Type 0} → A → Option A
some x = Some x

some_is : {A : Type 0} (x y : A) → some x ≡ some y → x ≡ y
some_is x y e = cc

-- all follows from what the start may be, and from what it covers
pub bounded_by : (c : Channel) → MayStart c.start → IsCovered c → IsBounded c
bounded_by c may covered = record {
  start = may;
  within = λ k. omega (arith, covered k);
  covered = covered;
  places = λ class.
      let few : at c.start (Kind.Headers class) < 128 = may (Kind.Headers class) in
      omega (arith, covered (Kind.Headers class), few, count_in-total class (c.wire ++ c.ingress));
}

-- ---- what waits at the sender plays no part

pub egress_bounded : (c : Channel) (egress : List Descriptor) → IsBounded c → IsBounded (with_egress c egress)
egress_bounded c egress b = record { start = b.start; within = b.within; covered = b.covered; places = b.places }

-- ---- a packet is sent

cost_within : (left : Counters) (cost : Cost) → has_room left cost ≡ true → (k : Kind) → cost_of cost k ≤ at left k
cost_within left cost room =
    (covers-all cost.class cost.data (at left)).0 (true-both 1 (at left (Kind.Headers cost.class)) cost.data (at left (Kind.Data cost.class)) room)

sent_by : (c c' : Channel) (taken : Option (Descriptor × List Descriptor)) → IsBounded c → sent_on c taken ≡ Some c' → IsBounded c'
sent_by c c' None b is = absurd cc
sent_by c c' (Some t) b is = by (has_room c.left t.0.head.cost) refl is
  where
    by : (room : Bool) → has_room c.left t.0.head.cost ≡ room → cond room (some (record { start = c.start; left = spent c.left t.0.head.cost; egress = t.1; wire = c.wire ++ t.0 ∷ []; ingress = c.ingress })) None ≡ Some c' → IsBounded c'
    by true room is' =
        let sent : Channel = record { start = c.start; left = spent c.left t.0.head.cost; egress = t.1; wire = c.wire ++ t.0 ∷ []; ingress = c.ingress } in
        subst IsBounded (some_is sent c' is')
        (bounded_by sent b.start (λ k. omega (arith, b.covered k, at-spent c.left t.0.head.cost k, total-sent k c.wire c.ingress t.0, cost_within c.left t.0.head.cost room k)))
    by false room is' = absurd cc

pub send_bounded : (class : Class) (c c' : Channel) → IsBounded c → send class c ≡ Some c' → IsBounded c'
send_bounded class c c' b is = sent_by c c' (eligible class c.egress) b is

-- ---- a packet reaches the receiver

received_by : (c c' : Channel) (wire : List Descriptor) → c.wire ≡ wire → IsBounded c → received_of c wire ≡ Some c' → IsBounded c'
received_by c c' [] e b is = absurd cc
received_by c c' (frame ∷ frames) e b is =
    let received : Channel = record { start = c.start; left = c.left; egress = c.egress; wire = frames; ingress = c.ingress ++ frame ∷ [] } in
    let before = subst (λ (ws : List Descriptor). (k : Kind) → at c.left k + total k (ws ++ c.ingress) ≤ at c.start k) e b.covered in
    subst IsBounded (some_is received c' is) (bounded_by received b.start (λ k. omega (arith, before k, total-delivered k frames c.ingress frame)))

pub deliver_bounded : (c c' : Channel) → IsBounded c → deliver c ≡ Some c' → IsBounded c'
deliver_bounded c c' b is = received_by c c' c.wire refl b is

-- ---- credits are returned to the sender

updated_by : (c c' : Channel) (most : Counters) (same : Bool) → ((k : Kind) → at most k + total k (c.wire ++ c.ingress) ≤ at c.start k) → IsBounded c
    → cond same None (some (record { start = c.start; left = most; egress = c.egress; wire = c.wire; ingress = c.ingress })) ≡ Some c' → IsBounded c'
updated_by c c' most true covered b is = absurd cc
updated_by c c' most false covered b is =
    let updated : Channel = record { start = c.start; left = most; egress = c.egress; wire = c.wire; ingress = c.ingress } in
    subst IsBounded (some_is updated c' is) (bounded_by updated b.start covered)

pub update_bounded : (c c' : Channel) → IsBounded c → update_fc c ≡ Some c' → IsBounded c'
update_bounded c c' b is =
    let most = unspent c.start (c.wire ++ c.ingress) in
    updated_by c c' most (same_counters c.left most) (λ k. omega (arith, b.covered k, at-unspent c.start (c.wire ++ c.ingress) k)) b is

-- ---- a packet leaves the receiver

pub ingress_bounded : (c : Channel) (class : Class) (frame : Descriptor) (rest : List Descriptor) → eligible class c.ingress ≡ Some (frame, rest) → IsBounded c → IsBounded (with_ingress c rest)
ingress_bounded c class frame rest taken b =
    bounded_by (with_ingress c rest) b.start (λ k. omega (arith, b.covered k, total-append k c.wire c.ingress, total-append k c.wire rest, total-taken k class c.ingress rest frame taken))
