-- What a packet's descriptor shows of it: its parties, and the header fields that ports read.
use Rattle.std.specs.Prelude.{ℕ, List, Option, Some, None, unwrap_or, if◌then◌else◌}
use Rattle.fab_types.specs.declared.class.Class.TheVariants.{Posted}
use Rattle.fab_types.specs.declared.cost.Cost.{Cost}
use Rattle.fab_types.specs.declared.faults.malformed.Malformed.{Malformed}
use Rattle.fab_types.specs.declared.head.Answerer.TheVariants.{Port, Host, Function}
use Rattle.fab_types.specs.declared.head.Head.{Head}
use Rattle.fab_types.specs.declared.head.Header.{Header}
use Rattle.fab_types.specs.declared.head.Header.TheVariants as header
use Rattle.fab_types.specs.declared.head.Parties.{Parties}
use Rattle.fab_types.specs.declared.head.Parties.TheVariants.{Upward, Downward, Answer}
use Rattle.fab_types.specs.Origins.{origin_id}
use Rattle.frame_log.specs.Descriptor.{Descriptor}
use Rattle.tlp_view.specs.Packet.{Packet, address_in}
use Rattle.tlp_view.specs.Kinds.{has_address, is_completion}
use Rattle.tlp_view.specs.Bytes.{packet_of}
use Rattle.tlp_view.specs.Malformed.{malformed}
use Rattle.tlp_view.specs.Costs.{cost_of}
use Rattle.request_handling.specs.Emissions.{Emission}

-- where a completion is routed: to its requester, but a port's answer to the sender of what the port refused
abbrev pub target_for : Parties → ℕ → ℕ
target_for (Upward f) requester = requester
target_for (Downward g) requester = requester
target_for (Answer Port None) requester = requester
target_for (Answer Port (Some x)) requester = origin_id x
target_for (Answer Host x) requester = requester
target_for (Answer (Function f) x) requester = requester

abbrev pub packet_header : Parties → Packet → Header
packet_header parties t =
    if is_completion t.kind
    then header.Completion (target_for parties t.requester) t.attributes.relaxed_ordering
    else (if has_address t.kind
    then header.Memory t.requester t.address_type (unwrap_or (address_in t.body) 0)
    else header.OtherRequest t.requester)

abbrev pub header_unless : Option Malformed → Parties → List ℕ → Header
header_unless None parties bytes = packet_header parties (packet_of bytes)
header_unless (Some cause) parties bytes = header.Malformed

abbrev pub malformed_cost : Cost
malformed_cost = record { class = Posted; «data» = 0 }

abbrev pub head_of : Emission → Head
head_of e = record { parties = e.parties; cost = cost_of e.bytes; header = header_unless (malformed e.bytes) e.parties e.bytes }

-- the descriptor of a domain's emission
abbrev pub descriptor_of : ℕ → ℕ → Emission → Descriptor
descriptor_of domain number e = record { domain = domain; number = number; head = head_of e }
