-- One direction of a link: what waits at its sender, travels and waits at its receiver, and the credits that bound it
-- (PCIe 4.0, 2.6.1). A receiver gives back the credits of a packet that leaves its queue, so what the sender may have at
-- most is the start without the cost of all that travels or waits behind it.
use Rattle.std.specs.Prelude.{ℕ, ◌+◌, ◌-◌, ◌==◌, ◌≤◌, Bool, ◌&&◌, nat_le, List, [], ◌∷◌, ◌++◌, Option, Some, None, if◌then◌else◌}
use Rattle.frame_log.specs.Descriptor.{Descriptor}
use Rattle.credit.specs.Kinds.{Class, Cost, Kind, cost_of}
use Rattle.credit.specs.Limits.{MayStart, credits_at, at, with_credits}
use Rattle.credit.specs.declared.counters.Credits.{Credits}
use Rattle.credit.specs.declared.counters.Counters.{Counters}
use Rattle.ordering.specs.Ordering.{same_class}
use Rattle.lane.specs.Lanes.{class_of, eligible}

pub record Channel : Type 0 where
  pub start : Counters  -- the credits that the receiver advertised at the start
  pub left : Counters  -- the credits that the sender knows to be left
  pub egress : List Descriptor  -- what waits at the sender, oldest first
  pub wire : List Descriptor  -- what is on the link
  pub ingress : List Descriptor  -- what waits at the receiver

-- with other packets at the sender
abbrev pub with_egress : Channel → List Descriptor → Channel
with_egress c egress = record { start = c.start; left = c.left; egress = egress; wire = c.wire; ingress = c.ingress }

-- ---- credits

-- are a header and so many data credits there?
abbrev pub covers : Credits → ℕ → Bool
covers left n = nat_le 1 left.headers && nat_le n left.payload

abbrev pub has_room : Counters → Cost → Bool
has_room left cost = covers (credits_at left cost.class) cost.data

abbrev pub less : Credits → ℕ → Credits
less c n = record { headers = c.headers - 1; payload = c.payload - n }

-- the credits without those of a packet
abbrev pub spent : Counters → Cost → Counters
spent left cost = with_credits left cost.class (less (credits_at left cost.class) cost.data)

-- the credits without those of all these packets
abbrev pub unspent : Counters → List Descriptor → Counters
unspent start [] = start
unspent start (frame ∷ frames) = spent (unspent start frames) frame.head.cost

abbrev pub same_credits : Credits → Credits → Bool
same_credits a b = (a.headers == b.headers) && (a.payload == b.payload)

abbrev pub same_counters : Counters → Counters → Bool
same_counters a b = same_credits a.posted b.posted && (same_credits a.non_posted b.non_posted && same_credits a.completion b.completion)

-- what all these packets cost of a kind
abbrev pub total : Kind → List Descriptor → ℕ
total k [] = 0
total k (frame ∷ frames) = cost_of frame.head.cost k + total k frames

-- how many of these packets are of a class
abbrev pub count_in : Class → List Descriptor → ℕ
count_in class [] = 0
count_in class (frame ∷ frames) = if same_class class (class_of frame) then 1 + count_in class frames else count_in class frames

-- has the sender no place for one more packet of the class?
abbrev pub is_full : Class → Channel → Bool
is_full class c = count_in class c.egress == 16

-- what the sender has left and what travels and waits behind it never cost more than the start
abbrev pub IsCovered : Channel → Type 0
IsCovered c = (k : Kind) → at c.left k + total k (c.wire ++ c.ingress) ≤ at c.start k

-- of each kind the start is less than half of what a counter holds, and no more is left than at the start; so counters are
-- never misread, and at most 127 packets of a class travel and wait
pub record IsBounded (c : Channel) : Type 0 where
  pub start : MayStart c.start
  pub within : (k : Kind) → at c.left k ≤ at c.start k
  pub covered : IsCovered c
  pub places : (class : Class) → count_in class (c.wire ++ c.ingress) ≤ 127

-- ---- what may happen

-- the eligible packet of a class goes on the wire and spends its credits, if there are as many
abbrev pub sent_on : Channel → Option (Descriptor × List Descriptor) → Option Channel
sent_on c None = None
sent_on c (Some taken) =
    if has_room c.left taken.0.head.cost
    then Some (record { start = c.start; left = spent c.left taken.0.head.cost; egress = taken.1; wire = c.wire ++ taken.0 ∷ []; ingress = c.ingress })
    else None

abbrev pub send : Class → Channel → Option Channel
send class c = sent_on c (eligible class c.egress)

-- the oldest packet of the wire reaches the receiver
abbrev pub received_of : Channel → List Descriptor → Option Channel
received_of c [] = None
received_of c (frame ∷ frames) = Some (record { start = c.start; left = c.left; egress = c.egress; wire = frames; ingress = c.ingress ++ frame ∷ [] })

abbrev pub deliver : Channel → Option Channel
deliver c = received_of c c.wire

-- the sender learns what it may have; nothing happens where it knows
abbrev pub advertised_of : Channel → Counters → Option Channel
advertised_of c most =
    if same_counters c.left most then None
    else Some (record { start = c.start; left = most; egress = c.egress; wire = c.wire; ingress = c.ingress })

abbrev pub update_fc : Channel → Option Channel
update_fc c = advertised_of c (unspent c.start (c.wire ++ c.ingress))
