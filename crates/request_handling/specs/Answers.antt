-- The completions by which ports and the host answer (PCIe 4.0, 2.2.9 and 2.3.1). That a locked read (MRdLk) is refused by a
-- Cpl, where the standard has CplLk, is this project's own choice.
use Rattle.std.specs.Prelude.{◌≡◌, ℕ, ◌+◌, ◌*◌, ◌/◌, ◌%◌, ◌≤◌, ◌==◌, Bool, false, ◌&&◌, List, Option, Some, None, option_map, unwrap_or, length, replicate, if◌then◌else◌}
use Rattle.fab_types.specs.declared.head.Answerer.{Answerer}
use Rattle.fab_types.specs.declared.head.Answerer.TheVariants as by
use Rattle.fab_types.specs.declared.head.Parties.{Parties}
use Rattle.fab_types.specs.declared.head.Parties.TheVariants.{Answer, Downward, Upward}
use Rattle.function.specs.Accesses.{IsAccess, shown_part, answer as page_answer}
use Rattle.fab_types.specs.declared.origin.Origin.{Origin}
use Rattle.fab_types.specs.declared.origin.Origin.TheVariants.{Function}
use Rattle.fab_types.specs.declared.status.Status.{Status}
use Rattle.fab_types.specs.declared.status.Status.TheVariants.{UR}
use Rattle.host_memory.specs.Pages.{part_of}
use Rattle.platform.specs.Reach.{reach}
use Rattle.platform.specs.Share.{Share}
use Rattle.tlp_view.specs.declared.enables.Enables.{Enables}
use Rattle.tlp_view.specs.Bytes.{packet_of}
use Rattle.tlp_view.specs.declared.completion.CompletionHead.{CompletionHead}
use Rattle.tlp_view.specs.Completions.{HeadFits, atomic_completion, completion_bytes, read_completion, refusal}
use Rattle.tlp_view.specs.Packet.{Packet, address_in, dw_count, enables_in}
use Rattle.tlp_view.specs.Requests.{moved, packet_bytes}
use Rattle.request_handling.specs.declared.handling.Made.{Made}
use Rattle.request_handling.specs.declared.handling.Made.TheVariants as made
use Rattle.request_handling.specs.Emissions.{Emission}

-- the bytes of a packet that the domain itself makes
abbrev pub made_bytes : Made → List ℕ
made_bytes (made.Completion t) = completion_bytes t
made_bytes (made.Request t) = packet_bytes t

-- a request that is made is read back as what it was made from
abbrev pub IsReadAs : Made → List ℕ → Type 0
IsReadAs (made.Completion t) bytes = Unit {0}
IsReadAs (made.Request t) bytes = packet_of bytes ≡ t

-- what goes to a function is a request for its register page
abbrev pub IsReply : Parties → Made → Type 0
IsReply (Upward function) packet = Unit {0}
IsReply (Downward function) (made.Completion t) = ⊥
IsReply (Downward function) (made.Request t) = IsAccess t
IsReply (Answer answerer addressee) packet = Unit {0}

-- the data of an answer are of whole DW, at most 64
pub record IsData (head : CompletionHead) (bytes : List ℕ) : Type 0 where
  pub fits : HeadFits head
  pub whole : length bytes % 4 ≡ 0
  pub small : length bytes ≤ 256

-- the ID of the host itself
abbrev pub host_id : ℕ
host_id = 0

abbrev pub answer : Answerer → Option Origin → Packet → Emission
answer answerer addressee t = record { parties = Answer answerer addressee; bytes = completion_bytes t }

-- a port's answer goes to the sender of what the port refused, whatever Requester ID that bore
abbrev pub port_answer : ℕ → ℕ → Status → Packet → Emission
port_answer port function status t = answer by.Port (Some (Function function)) (refusal port status t)

-- the host's answers go by the Requester ID
abbrev pub host_refusal : Share → Packet → Emission
host_refusal share t = answer by.Host (reach share t.requester) (refusal host_id UR t)

abbrev pub host_data : Share → Packet → List ℕ → Emission
host_data share t bytes = answer by.Host (reach share t.requester) (read_completion host_id t bytes)

-- of an AtomicOp, with what stood there
abbrev pub host_operand : Share → Packet → List ℕ → Emission
host_operand share t bytes = answer by.Host (reach share t.requester) (atomic_completion host_id t bytes)

abbrev pub address_of : Packet → ℕ
address_of t = unwrap_or (address_in t.body) 0

abbrev pub enables_nothing : Option Enables → Bool
enables_nothing None = false
enables_nothing (Some enables) = enables.first == 0

-- a read of no bytes: Length 1 with no byte enabled
abbrev pub reads_nothing : Packet → Bool
reads_nothing t = (dw_count t.length == 1) && enables_nothing (enables_in t.body)

abbrev pub blank : Packet → List ℕ
blank t = replicate (4 * dw_count t.length) 0

-- what is stored in a frame where a read or an AtomicOp asks, if it asks for any bytes and they stand there
abbrev pub stored_part : List (ℕ × List ℕ) → ℕ → Packet → Option (List ℕ)
stored_part frames k t =
    if reads_nothing t then None
    else part_of frames k (address_of t % 4096) (address_of t % 4096 + 4 * dw_count t.length)

-- What a read or an AtomicOp of a frame shows: what is stored there, disabled bytes too. A read of no bytes shows 0;
-- that is this project's own choice
abbrev pub shown : List (ℕ × List ℕ) → ℕ → Packet → List ℕ
shown frames k t = unwrap_or (stored_part frames k t) (blank t)

-- ---- a request to the register page of a function

-- a function answers a read of its page, by the Requester ID
abbrev pub answered_by : Share → ℕ → Packet → Packet → Emission
answered_by share function t completion = answer (by.Function function) (reach share t.requester) completion

-- a function's refusal of a request
abbrev pub function_refusal : Share → ℕ → Packet → Emission
function_refusal share function t = answered_by share function t (refusal function UR t)

-- of a read of any bytes, with what stands there
abbrev pub function_read : Share → ℕ → List ℕ → Packet → Option Emission
function_read share function page t = option_map (λ bytes. answered_by share function t (read_completion function t bytes)) (shown_part page t)

abbrev pub function_answer : Share → ℕ → List ℕ → Packet → Option Emission
function_answer share function page t = option_map (answered_by share function t) (page_answer function page t)

-- the address at which a function's register page begins; every BAR is the address of a page
abbrev pub page_at : ℕ → ℕ
page_at bar = bar / 4096 * 4096

-- the request goes on to the same place in the function's page, with all else kept
abbrev pub forwarded : ℕ → ℕ → Packet → Emission
forwarded function bar t = record { parties = Downward function; bytes = packet_bytes (moved t (page_at bar + address_of t % 4096)) }
