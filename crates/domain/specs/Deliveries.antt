-- What becomes of a completion at the function or host that it goes to (PCIe 4.0, 2.3.2).
use Rattle.std.specs.Prelude.{◌≡◌, ℕ, ◌+◌, ◌==◌, Bool, true, false, ◌&&◌, ◌||◌, List, [], ◌∷◌, ◌++◌, Option, Some, None, option_map, if◌then◌else◌}
use Rattle.fab_types.specs.declared.head.Answerer.{Answerer}
use Rattle.fab_types.specs.declared.head.Answerer.TheVariants as by
use Rattle.fab_types.specs.declared.head.Parties.{Parties}
use Rattle.fab_types.specs.declared.head.Parties.TheVariants.{Upward, Downward, Answer}
use Rattle.fab_types.specs.declared.origin.Origin.{Origin}
use Rattle.fab_types.specs.declared.status.Status.{Status}
use Rattle.tlp_view.specs.Bytes.{packet_of}
use Rattle.tlp_view.specs.Packet.{Packet, status_in}
use Rattle.domain.specs.declared.deliver.Arriving.{Arriving}
use Rattle.function.specs.declared.tags.OpenTag.{OpenTag}
use Rattle.fab_types.specs.Origins.{origin_id}
use Rattle.function.specs.Tags.{closed, use_of}
use Rattle.domain_state.specs.Closings.{completed}
use Rattle.request_handling.specs.Emissions.{Emission}
use Rattle.domain_state.specs.State.{Alone, Delivery, item_at, without}
use Rattle.domain_state.specs.Tags.{is_open}

abbrev pub is_port : Answerer → Bool
is_port by.Port = true
is_port by.Host = false
is_port (by.Function function) = false

-- the record of a completion that arrives, and whether its addressee waits for it
pub record Arrival : Type 0 where
  pub delivery : Delivery
  pub is_awaited : Bool

-- awaited is a completion with an open Tag of the addressee; only a port's answer may bear another Requester ID
abbrev pub is_awaited : List OpenTag → Answerer → Origin → Packet → Bool
is_awaited tags answerer owner t = is_open tags owner t.tag && (is_port answerer || (t.requester == origin_id owner))

-- a completion of this status at this function or host, without its bytes
abbrev pub arriving_at : List OpenTag → Packet → Answerer → Origin → Status → Arriving
arriving_at tags t answerer owner status = record { owner = owner; tag = t.tag; status = status; is_awaited = is_awaited tags answerer owner t }

-- the same with them
abbrev pub arrival_by : Arriving → List ℕ → Arrival
arrival_by a bytes = record { delivery = record { owner = a.owner; tag = a.tag; status = a.status; bytes = bytes }; is_awaited = a.is_awaited }

-- a completion of these bytes and of this status at this function or host
abbrev pub arrival_at : List OpenTag → Packet → List ℕ → Answerer → Origin → Status → Arrival
arrival_at tags t bytes answerer owner status = arrival_by (arriving_at tags t answerer owner status) bytes

-- a packet that has no status is no completion, and arrives at nobody
abbrev pub arrival_for : List OpenTag → List ℕ → Answerer → Option Origin → Option Arrival
arrival_for tags bytes answerer None = None
arrival_for tags bytes answerer (Some owner) = let t = packet_of bytes in option_map (arrival_at tags t bytes answerer owner) (status_in t.body)

abbrev pub arrival_of : List OpenTag → List ℕ → Parties → Option Arrival
arrival_of tags bytes (Upward function) = None
arrival_of tags bytes (Downward function) = None
arrival_of tags bytes (Answer answerer addressee) = arrival_for tags bytes answerer addressee

-- what a packet in flight is to the one that it goes to, if it is a completion for somebody
abbrev pub arrival : List OpenTag → Option Emission → Option Arrival
arrival tags None = None
arrival tags (Some e) = arrival_of tags e.bytes e.parties

-- the Tag is closed, its data go where they were asked for, and the completion is recorded
abbrev pub recorded : Alone → Delivery → Alone
recorded s delivery = record {
  frames = s.frames;
  registers = completed s.registers (use_of s.open_tags delivery.owner delivery.tag) delivery.owner delivery.status (packet_of delivery.bytes).payload;
  open_tags = closed s.open_tags delivery.owner delivery.tag;
  deliveries = s.deliveries ++ delivery ∷ [];
  counts = s.counts;
  flight = s.flight;
}

-- one more completion that nobody waits for
abbrev pub unexpected : Alone → Alone
unexpected s = record {
  frames = s.frames;
  registers = s.registers;
  open_tags = s.open_tags;
  deliveries = s.deliveries;
  counts = record { begins = s.counts.begins; blocked = s.counts.blocked; unexpected = s.counts.unexpected + 1 };
  flight = s.flight;
}

abbrev pub arrived : Alone → Arrival → Alone
arrived s a = if a.is_awaited then recorded s a.delivery else unexpected s

-- the packet of this number left flight as a completion that arrived at whom it is for, and a record was made of it exactly where
-- that is said
pub record HasArrived (old : Alone) (n : ℕ) (new : Alone) (is_recorded : Bool) : Type 0 where
  pub emission : Emission
  pub waits : item_at old.flight n ≡ Some emission
  pub arrives : Arrival
  pub arrival_is : arrival old.open_tags (item_at old.flight n) ≡ Some arrives
  pub state_is : new ≡ arrived (without old n) arrives
  pub recorded_is : is_recorded ≡ arrives.is_awaited

-- the record that is made of it, if any
abbrev pub record_of_arrival : Arrival → Option Delivery
record_of_arrival a = if a.is_awaited then Some a.delivery else None
