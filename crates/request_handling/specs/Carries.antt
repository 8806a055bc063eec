-- What becomes of a request at its sender's first port, at the host, where the table of its Requester ID says
-- where it goes, and at the function whose register page it is for.
use Rattle.std.specs.Prelude.{ℕ, ◌/◌, ◌%◌, ◌==◌, Bool, ◌&&◌, nat_lt, List, Option, Some, None, if◌then◌else◌, false}
use Rattle.platform.specs.declared.parts.MapTarget.{MapTarget}
use Rattle.platform.specs.declared.parts.MapTarget.TheVariants.{Frame, Peer}
use Rattle.platform.specs.declared.parts.Access.{Access as AccessLetter}
use Rattle.platform.specs.declared.parts.Access.TheVariants.{Read, Write}
use Rattle.platform.specs.declared.parts.DownstreamPort.{DownstreamPort}
use Rattle.platform.specs.Share.{Share}
use Rattle.platform.specs.Owners.{bar_of, first_port, owner_of}
use Rattle.platform.specs.Tables.{target_of}
use Rattle.fab_types.specs.declared.head.Answerer.{Answerer}
use Rattle.fab_types.specs.declared.head.Answerer.TheVariants as by
use Rattle.fab_types.specs.declared.head.Parties.{Parties}
use Rattle.fab_types.specs.declared.head.Parties.TheVariants.{Upward, Downward, Answer}
use Rattle.tlp_view.specs.Packet.{Packet, dw_count}
use Rattle.tlp_view.specs.Kinds.{is_fetch_add}
use Rattle.tlp_view.specs.Runs.{is_write}
use Rattle.tlp_view.specs.Bytes.{packet_of}
use Rattle.tlp_view.specs.Malformed.{malformed}
use Rattle.fab_types.specs.declared.faults.malformed.Malformed.{Malformed}
use Rattle.request_handling.specs.declared.handling.Effect.TheVariants.{Leave, Block, Store, Add}
use Rattle.request_handling.specs.declared.handling.Handling.{Handling}
use Rattle.request_handling.specs.Emissions.{Emission}
use Rattle.request_handling.specs.Answers.{address_of, forwarded, host_data, host_operand, host_refusal, port_answer, shown}
use Rattle.request_handling.specs.declared.fate.Fate.{Fate}
use Rattle.request_handling.specs.declared.fate.Fate.TheVariants.{Vanish, Refused, ToHost, Direct}
use Rattle.request_handling.specs.AtFunctions.{access_of, discarded, request_at_function}
use Rattle.request_handling.specs.Fates.{fate, is_untranslated, returns_completion}

-- ---- at the first port of its sender

abbrev pub port_id : Option DownstreamPort → ℕ
port_id None = 0
port_id (Some port) = port.id

-- what its fate stops there is discarded, or answered by the port
abbrev pub refusal_by : ℕ → ℕ → List ℕ → Fate → Option Handling
refusal_by port function bytes Vanish = Some discarded
refusal_by port function bytes (Refused status) = Some (record { effect = Leave; reply = Some (port_answer port function status (packet_of bytes)) })
refusal_by port function bytes ToHost = None
refusal_by port function bytes (Direct peer) = None

abbrev pub returned_by : Option DownstreamPort → Packet → Bool
returned_by None t = false
returned_by (Some port) t = returns_completion port t

-- of completions a function's own alone come to its first port from below
abbrev pub is_returned : Share → Answerer → Packet → Bool
is_returned share by.Port t = false
is_returned share by.Host t = false
is_returned share (by.Function function) t = returned_by (first_port share.ports function) t

-- a completion that its first port would have to send back is discarded there
abbrev pub answer_refusal : Share → Option Malformed → Answerer → Packet → Option Handling
answer_refusal share None answerer t = if is_returned share answerer t then Some discarded else None
answer_refusal share (Some cause) answerer t = None

abbrev pub refusal_of : Share → List ℕ → Parties → Option Handling
refusal_of share bytes (Upward function) = refusal_by (port_id (first_port share.ports function)) function bytes (fate share.ports function bytes)
refusal_of share bytes (Downward function) = None
refusal_of share bytes (Answer answerer addressee) = answer_refusal share (malformed bytes) answerer (packet_of bytes)

-- how a packet in flight ends at its sender's first port, if it ends there
abbrev pub refusal_end : Share → Option Emission → Option Handling
refusal_end share None = None
refusal_end share (Some e) = refusal_of share e.bytes e.parties

-- ---- at the host

-- a request to a peer function goes down to its register page
abbrev pub forward : ℕ → Packet → Option ℕ → Option Handling
forward function t None = None
forward function t (Some bar) = Some (record { effect = Leave; reply = Some (forwarded function bar t) })

-- a write of a frame
abbrev pub to_frame : ℕ → Packet → Handling
to_frame k t = record { effect = Store k (address_of t % 4096); reply = None }

-- a read of a frame
abbrev pub from_frame : Share → List (ℕ × List ℕ) → Packet → ℕ → Handling
from_frame share frames t k = record { effect = Leave; reply = Some (host_data share t (shown frames k t)) }

-- a FetchAdd of a frame, which is answered with what stood there
abbrev pub add_to_frame : Share → List (ℕ × List ℕ) → Packet → ℕ → Handling
add_to_frame share frames t k = record { effect = Add k (address_of t % 4096); reply = Some (host_operand share t (shown frames k t)) }

-- a non-posted request whose page isn't mapped for it is counted and refused
abbrev pub blocked_by_host : Share → Packet → Handling
blocked_by_host share t = record { effect = Block; reply = Some (host_refusal share t) }

-- a write goes where its page is mapped
abbrev pub write_to : Share → Packet → Option MapTarget → Option Handling
write_to share t None = Some (record { effect = Block; reply = None })
write_to share t (Some (Frame k)) = Some (to_frame k t)
write_to share t (Some (Peer function)) = forward function t (bar_of share.functions function)

-- a read is answered with what its page is mapped to
abbrev pub read_from : Share → List (ℕ × List ℕ) → Packet → Option MapTarget → Option Handling
read_from share frames t None = Some (blocked_by_host share t)
read_from share frames t (Some (Frame k)) = Some (from_frame share frames t k)
read_from share frames t (Some (Peer function)) = forward function t (bar_of share.functions function)

abbrev pub refused_by_host : Share → Packet → Handling
refused_by_host share t = record { effect = Leave; reply = Some (host_refusal share t) }

-- a read of more than 64 DW is refused before its page is looked up
abbrev pub serve_read : Share → List (ℕ × List ℕ) → Packet → Option Handling
serve_read share frames t =
    if nat_lt 64 (dw_count t.length)
    then Some (refused_by_host share t)
    else read_from share frames t (target_of share.maps t.requester (address_of t / 4096) Read)

-- the frame that a page is mapped to
abbrev pub frame_in : Option MapTarget → Option ℕ
frame_in None = None
frame_in (Some (Frame k)) = Some k
frame_in (Some (Peer function)) = None

abbrev pub frame_for : Share → Packet → AccessLetter → Option ℕ
frame_for share t access = frame_in (target_of share.maps t.requester (address_of t / 4096) access)

-- a FetchAdd reads and writes, so its page has to be mapped to a frame for both. No two lines map one page, so it is one frame
abbrev pub add_if : Share → List (ℕ × List ℕ) → Packet → Option ℕ → Option ℕ → Handling
add_if share frames t None to_write = blocked_by_host share t
add_if share frames t (Some to_read) None = blocked_by_host share t
add_if share frames t (Some to_read) (Some to_write) = add_to_frame share frames t to_write

abbrev pub serve_add : Share → List (ℕ × List ℕ) → Packet → Handling
serve_add share frames t = add_if share frames t (frame_for share t Read) (frame_for share t Write)

abbrev pub serve : Share → List (ℕ × List ℕ) → Packet → Option Handling
serve share frames t =
    if is_write t.kind
    then write_to share t (target_of share.maps t.requester (address_of t / 4096) Write)
    else (if is_fetch_add t.kind then Some (serve_add share frames t) else serve_read share frames t)

abbrev pub is_owner : Option ℕ → ℕ → Bool
is_owner None domain = false
is_owner (Some owner) domain = owner == domain

-- a request is carried that claims no translation, in the name of a requester of this domain
abbrev pub is_carried : Share → Packet → Bool
is_carried share t = is_untranslated t.address_type && is_owner (owner_of share.ports t.requester) share.domain

-- by the host, or by the function to which it goes directly
abbrev pub carriage_by : Share → List (ℕ × List ℕ) → List (ℕ × List ℕ) → List ℕ → Fate → Option Handling
carriage_by share frames registers bytes Vanish = None
carriage_by share frames registers bytes (Refused status) = None
carriage_by share frames registers bytes ToHost = if is_carried share (packet_of bytes) then serve share frames (packet_of bytes) else None
carriage_by share frames registers bytes (Direct function) = if is_carried share (packet_of bytes) then Some (request_at_function share registers function (packet_of bytes)) else None

-- ---- at either

abbrev pub carriage_of : Share → List (ℕ × List ℕ) → List (ℕ × List ℕ) → List ℕ → Parties → Option Handling
carriage_of share frames registers bytes (Upward function) = carriage_by share frames registers bytes (fate share.ports function bytes)
carriage_of share frames registers bytes (Downward function) = access_of share registers function (packet_of bytes)
carriage_of share frames registers bytes (Answer answerer addressee) = None

-- how a packet in flight ends at its completer, if it ends there
abbrev pub carriage_end : Share → List (ℕ × List ℕ) → List (ℕ × List ℕ) → Option Emission → Option Handling
carriage_end share frames registers None = None
carriage_end share frames registers (Some e) = carriage_of share frames registers e.bytes e.parties
