-- What a packet does that is taken where its home's machine has no case. Only layouts in which a port lacks one
-- of the five controls have such packets. What it does in this domain follows from the share, the state, the
-- place, the sender and the bytes alone. That, and which requests are served, is the project's own; the
-- completions are those of PCIe 4.0, 2.3.1 and 2.3.2.
use Rattle.std.specs.Prelude.{ℕ, ◌==◌, Bool, ◌||◌, nat_lt, List, length, Option, Some, None, if◌then◌else◌}
use Rattle.fab_types.specs.Id.{host_of}
use Rattle.fab_types.specs.declared.faults.malformed.Malformed.{Malformed}
use Rattle.fab_types.specs.declared.head.Answerer.{Answerer}
use Rattle.fab_types.specs.declared.head.Answerer.TheVariants as by
use Rattle.fab_types.specs.declared.head.Parties.{Parties}
use Rattle.fab_types.specs.declared.head.Parties.TheVariants.{Upward, Downward, Answer}
use Rattle.fab_types.specs.declared.origin.Origin.TheVariants as origin
use Rattle.fab_types.specs.declared.place.Place.{Place}
use Rattle.fab_types.specs.declared.status.Status.{Status}
use Rattle.function.specs.declared.tags.OpenTag.{OpenTag}
use Rattle.platform.specs.Share.{Share, is_guarded}
use Rattle.tlp_view.specs.Bytes.{packet_of}
use Rattle.tlp_view.specs.Malformed.{malformed}
use Rattle.tlp_view.specs.Packet.{Packet, status_in}
use Rattle.tlp_view.specs.View.{address_type_in}
use Rattle.domain.specs.declared.receive.Reception.{Reception}
use Rattle.domain.specs.declared.receive.Reception.TheVariants.{Ends, Arrives}
use Rattle.request_handling.specs.declared.taker.Taker.{Taker}
use Rattle.request_handling.specs.declared.taker.Taker.TheVariants.{Host, Function, Port, Upstream}
use Rattle.request_handling.specs.AtFunctions.{discarded}
use Rattle.request_handling.specs.AtFunctions.{request_at_function}
use Rattle.request_handling.specs.Requests.{at_port, request_at_host}
use Rattle.domain.specs.Deliveries.{arriving_at}
use Rattle.request_handling.specs.Heads.{target_for}
use Rattle.domain.specs.Receptions.{received}
use Rattle.domain_state.specs.State.{Alone, Change}
use Rattle.request_handling.specs.Takers.{taker_of}

-- ---- completions

abbrev pub answerer_of : Parties → Answerer
answerer_of (Upward function) = by.Function function
answerer_of (Downward function) = by.Host
answerer_of (Answer answerer addressee) = answerer

-- the host takes those that are routed to its own ID
abbrev pub completion_at_host : Share → List OpenTag → Parties → Packet → Status → Reception
completion_at_host share tags sender t status =
    if target_for sender t.requester == host_of share.domain then Arrives (arriving_at tags t (answerer_of sender) (origin.Host share.domain) status)
    else Ends discarded

-- ---- at each of them: what has a status is a completion, all else a request

abbrev pub at_host_with : Option Status → Share → Alone → Parties → Packet → Reception
at_host_with None share s sender t = Ends (request_at_host share s.frames t (address_type_in t))
at_host_with (Some status) share s sender t = completion_at_host share s.open_tags sender t status

abbrev pub at_host : Share → Alone → Parties → Packet → Reception
at_host share s sender t = at_host_with (status_in t.body) share s sender t

abbrev pub at_function_with : Option Status → Share → Alone → ℕ → Parties → Packet → Reception
at_function_with None share s g sender t = Ends (request_at_function share s.registers g t)
at_function_with (Some status) share s g sender t = Arrives (arriving_at s.open_tags t (answerer_of sender) (origin.Function g) status)

abbrev pub at_function : Share → Alone → ℕ → Parties → Packet → Reception
at_function share s g sender t = at_function_with (status_in t.body) share s g sender t

abbrev pub reception_at : Share → Alone → List ℕ → Parties → Packet → Taker → Reception
reception_at share s bytes sender t Host = at_host share s sender t
reception_at share s bytes sender t (Function g) = at_function share s g sender t
reception_at share s bytes sender t (Port port) = Ends (at_port share.ports port bytes sender)
reception_at share s bytes sender t Upstream = Ends discarded

-- malformed bytes do nothing anywhere
abbrev pub reception_unless : Option Malformed → Share → Alone → List ℕ → Parties → Taker → Reception
reception_unless None share s bytes sender taker = reception_at share s bytes sender (packet_of bytes) taker
reception_unless (Some cause) share s bytes sender taker = Ends discarded

-- what becomes of it, if there is somebody to take it
abbrev pub reception_by : Share → Alone → List ℕ → Parties → Option Taker → Option Reception
reception_by share s bytes sender None = None
reception_by share s bytes sender (Some taker) = Some (reception_unless (malformed bytes) share s bytes sender taker)

-- in a guarded layout no packet is alien, and none is longer than 272 bytes
abbrev pub is_excluded : Share → List ℕ → Bool
is_excluded share bytes = is_guarded share || nat_lt 272 (length bytes)

abbrev pub reception_of : Share → Alone → Place → Parties → List ℕ → Option Reception
reception_of share s place sender bytes =
    if is_excluded share bytes then None else reception_by share s bytes sender (taker_of share place)

abbrev pub received_if : Alone → List ℕ → Option Reception → Option Change
received_if s bytes None = None
received_if s bytes (Some reception) = Some (received s bytes reception)

abbrev pub alien : Share → Alone → Place → Parties → List ℕ → Option Change
alien share s place sender bytes = received_if s bytes (reception_of share s place sender bytes)
