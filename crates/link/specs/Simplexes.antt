-- One direction of a link, as a contract sees it.
use Rattle.std.specs.Prelude.{◌≡◌, ◌+◌, ◌<◌, ◌≤◌, ◌++◌, Bool, true, ◌&&◌, nat_le, List, Option, None, if◌then◌else◌}
use Rattle.frame_log.specs.Descriptor.{Descriptor}
use Rattle.credit.specs.Counter.{distance}
use Rattle.credit.specs.Kinds.{Kind, Cost, size_of}
use Rattle.credit.specs.Limits.{Ledger, IsInRange, at, left_counters, left_of}
use Rattle.credit.specs.declared.counters.Counters.{Counters}
use Rattle.lane.specs.Queues.{Waiting, frames_of, frames_restored}
use Rattle.link.specs.Channels.{Channel, total}
use Rattle.link.specs.declared.simplex.Simplex.TheInside.{Inside}

pub record SimplexView : Type 0 where
  pub start : Counters
  pub left : Counters
  pub egress : Waiting
  pub wire : List Descriptor
  pub ingress : Waiting

abbrev pub channel : SimplexView → Channel
channel s = record { start = s.start; left = s.left; egress = frames_of s.egress.queue.waiting; wire = s.wire; ingress = frames_of s.ingress.queue.waiting }

abbrev pub simplex_view : Inside → SimplexView
simplex_view s = record { start = s.egress.sender.start; left = left_counters s.egress.sender.credits_consumed s.egress.sender.credit_limit; egress = s.egress.queue; wire = s.wire; ingress = s.ingress.queue }

-- could the receiver take this packet as well, beside the credits that the sender has left?
abbrev pub has_place : Channel → Cost → Bool
has_place c cost =
    nat_le (at c.left (Kind.Headers cost.class) + total (Kind.Headers cost.class) (c.wire ++ c.ingress) + 1) (at c.start (Kind.Headers cost.class))
    && nat_le (at c.left (Kind.Data cost.class) + total (Kind.Data cost.class) (c.wire ++ c.ingress) + cost.data) (at c.start (Kind.Data cost.class))

-- what waits at the receiver once a packet is put back that was just taken
abbrev pub simplex_restored : SimplexView → Descriptor → Option (List Descriptor)
simplex_restored s frame = if has_place (channel s) frame.head.cost then frames_restored s.ingress.queue frame else None

-- all that a receiver's end leaves as it is
pub record Behind : Type 0 where
  pub start : Counters
  pub left : Counters
  pub egress : List Descriptor
  pub wire : List Descriptor

-- all that a sender's end leaves as it is
pub record Before : Type 0 where
  pub start : Counters
  pub left : Counters
  pub wire : List Descriptor
  pub ingress : List Descriptor

-- what travels and waits is within the start beside what the sender has left, and the receiver's limit is beyond what
-- was sent by the start without the cost of all that travels and waits
pub record IsCounted (sender : Ledger) (limit : Counters) (behind : List Descriptor) : Type 0 where
  pub range : IsInRange sender
  pub covered : (k : Kind) → left_of sender k + total k behind ≤ at sender.start k
  pub freed : (k : Kind) → distance (size_of k) (at sender.credits_consumed k) (at limit k) + total k behind ≡ at sender.start k
  pub known : (k : Kind) → at sender.credit_limit k < size_of k
  pub bounded : (k : Kind) → at limit k < size_of k

-- and where the receiver freed nothing since its limits were advertised, the sender knows its limit
pub record IsSimplex (s : Inside) : Type 0 where
  pub counted : IsCounted s.egress.sender s.ingress.receiver.credits_allocated (s.wire ++ frames_of s.ingress.queue.queue.waiting)
  pub advertised : s.is_advertised ≡ true → s.ingress.receiver.credits_allocated ≡ s.egress.sender.credit_limit
