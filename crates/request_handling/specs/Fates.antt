-- What the first port of a function does with what the function sends: the ACS tests are those of PCIe 4.0, 6.12.1.1, and a
-- violation is answered Completer Abort, or discarded (6.12.4). That translation blocking tests no kinds but memory reads and
-- writes and FetchAdds is this project's own, and so is that a locked read (MRdLk) is answered UR by a Cpl and no CplLk.
use Rattle.std.specs.Prelude.{ℕ, Bool, true, false, ◌&&◌, ◌||◌, not, List, Option, Some, None, unwrap_or, if◌then◌else◌}
use Rattle.fab_types.specs.Id.{bus_of}
use Rattle.fab_types.specs.Controls.{validates_source, blocks_translated, controls_egress, forwards_upstream, redirects_requests}
use Rattle.fab_types.specs.declared.class.Class.{Class}
use Rattle.fab_types.specs.declared.class.Class.TheVariants.{Posted, NonPosted, Completion}
use Rattle.fab_types.specs.declared.faults.malformed.Malformed.{Malformed}
use Rattle.fab_types.specs.declared.head.AddressType.{AddressType}
use Rattle.fab_types.specs.declared.head.AddressType.TheVariants.{Untranslated}
use Rattle.fab_types.specs.declared.status.Status.{Status}
use Rattle.fab_types.specs.declared.status.Status.TheVariants.{UR, CA}
use Rattle.platform.specs.declared.parts.DownstreamPort.{DownstreamPort}
use Rattle.platform.specs.Egress.{direct_to, holder_beside, lets_through}
use Rattle.platform.specs.Owners.{holds_bus, holds_address, first_port}
use Rattle.request_handling.specs.declared.fate.Fate.{Fate}
use Rattle.request_handling.specs.declared.fate.Fate.TheVariants.{Vanish, Refused, ToHost, Direct}
use Rattle.request_handling.specs.Answers.{address_of}
use Rattle.tlp_view.specs.Packet.{Packet, address_in}
use Rattle.tlp_view.specs.Kinds.{class_of_kind, has_address}
use Rattle.tlp_view.specs.Bytes.{packet_of}
use Rattle.tlp_view.specs.Malformed.{malformed}

abbrev pub is_untranslated : AddressType → Bool
is_untranslated Untranslated = true
is_untranslated _ = false

-- Source Validation: the Requester ID is of no bus below the port
abbrev pub fails_source : DownstreamPort → Packet → Bool
fails_source port t = validates_source port.controls && not (holds_bus port (bus_of t.requester))

-- Translation Blocking: a memory read or write or a FetchAdd claims a translated address
abbrev pub fails_translation : DownstreamPort → Packet → Bool
fails_translation port t = blocks_translated port.controls && has_address t.kind && not (is_untranslated t.address_type)

-- without Upstream Forwarding a port doesn't send back what is for its own window
abbrev pub returns_to_sender : DownstreamPort → Packet → Bool
returns_to_sender port t = not (forwards_upstream port.controls) && holds_address port (unwrap_or (address_in t.body) 0)

-- nor a completion for a bus below it
abbrev pub returns_completion : DownstreamPort → Packet → Bool
returns_completion port t = not (forwards_upstream port.controls) && holds_bus port (bus_of t.requester)

-- requests that nobody answers are discarded
abbrev pub stopped : Status → Class → Fate
stopped status Posted = Vanish
stopped status NonPosted = Refused status
stopped status Completion = Vanish

abbrev pub is_blocked_from : DownstreamPort → Option DownstreamPort → Bool
is_blocked_from port None = false
is_blocked_from port (Some other) = not (lets_through port other.id)

-- P2P Egress Control without P2P Request Redirect: the address is in the window of another port of the switch, to which the
-- vector lets no request through
abbrev pub fails_egress : List DownstreamPort → DownstreamPort → Packet → Bool
fails_egress ports port t =
    controls_egress port.controls && not (redirects_requests port.controls)
    && not (holds_address port (address_of t)) && is_blocked_from port (holder_beside ports port (address_of t))

-- what no port stops goes to the host, or directly to another function
abbrev pub goes_to : Option ℕ → Fate
goes_to None = ToHost
goes_to (Some function) = Direct function

abbrev pub packet_fate : List DownstreamPort → ℕ → DownstreamPort → Packet → Fate
packet_fate ports function port t =
    if fails_source port t || fails_translation port t then stopped CA (class_of_kind t.kind)
    else (if not (has_address t.kind) || returns_to_sender port t then stopped UR (class_of_kind t.kind)
    else (if fails_egress ports port t then stopped CA (class_of_kind t.kind)
    else goes_to (direct_to ports function (address_of t))))

abbrev pub fate_unless : Option Malformed → List DownstreamPort → ℕ → DownstreamPort → List ℕ → Fate
fate_unless None ports function port bytes = packet_fate ports function port (packet_of bytes)
fate_unless (Some cause) ports function port bytes = Vanish

-- malformed bytes are discarded
abbrev pub fate_at : List DownstreamPort → ℕ → DownstreamPort → List ℕ → Fate
fate_at ports function port bytes = fate_unless (malformed bytes) ports function port bytes

abbrev pub fate_below : List DownstreamPort → ℕ → Option DownstreamPort → List ℕ → Fate
fate_below ports function None bytes = Vanish
fate_below ports function (Some port) bytes = fate_at ports function port bytes

-- by the first port of the function that sends the bytes; each function has one
abbrev pub fate : List DownstreamPort → ℕ → List ℕ → Fate
fate ports function bytes = fate_below ports function (first_port ports function) bytes

-- the function to which a packet of this fate goes directly, if it goes so to any
abbrev pub direct_in : Fate → Option ℕ
direct_in Vanish = None
direct_in (Refused status) = None
direct_in ToHost = None
direct_in (Direct function) = Some function
