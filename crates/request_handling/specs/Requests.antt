-- What is done with a request that is taken where its home's machine has no case. Only layouts in which a port
-- lacks one of the five controls have such requests. Which of them are served is the project's own; the
-- completions are those of PCIe 4.0, 2.3.1.
use Rattle.std.specs.Prelude.{ℕ, ◌/◌, ◌==◌, nat_lt, List, Option, Some, None, if◌then◌else◌}
use Rattle.std.specs.List.{find}
use Rattle.fab_types.specs.declared.head.AddressType.{AddressType}
use Rattle.fab_types.specs.declared.head.AddressType.TheVariants.{Untranslated, TranslationRequest, Translated, Reserved}
use Rattle.fab_types.specs.declared.head.Parties.{Parties}
use Rattle.fab_types.specs.declared.head.Parties.TheVariants.{Upward, Downward, Answer}
use Rattle.platform.specs.declared.parts.DownstreamPort.{DownstreamPort}
use Rattle.platform.specs.Owners.{owner_of}
use Rattle.platform.specs.Share.{Share}
use Rattle.tlp_view.specs.Kinds.{class_of_kind, is_memory}
use Rattle.tlp_view.specs.Packet.{Packet, dw_count}
use Rattle.tlp_view.specs.Runs.{is_write}
use Rattle.request_handling.specs.declared.handling.Handling.{Handling}
use Rattle.request_handling.specs.Answers.{address_of, host_refusal}
use Rattle.request_handling.specs.AtFunctions.{discarded, or_discarded, unserved}
use Rattle.request_handling.specs.Carries.{from_frame, is_owner, refusal_by, refused_by_host, serve, to_frame}
use Rattle.request_handling.specs.Fates.{fate_at}

-- ---- a request at the host

abbrev pub unserved_by_host : Share → Packet → Handling
unserved_by_host share t = unserved (class_of_kind t.kind) (host_refusal share t)

-- AT 00: by the table of the Requester ID, if that is one of this domain
abbrev pub by_table : Share → List (ℕ × List ℕ) → Packet → Handling
by_table share frames t =
    if is_owner (owner_of share.ports t.requester) share.domain then or_discarded (serve share frames t)
    else unserved_by_host share t

-- a frame is written or read; a read of more than 64 DW is refused
abbrev pub at_frame : Share → List (ℕ × List ℕ) → Packet → ℕ → Handling
at_frame share frames t k =
    if is_write t.kind then to_frame k t
    else (if nat_lt 64 (dw_count t.length) then refused_by_host share t
    else from_frame share frames t k)

abbrev pub at_frame_if : Share → List (ℕ × List ℕ) → Packet → Option ℕ → Handling
at_frame_if share frames t None = unserved_by_host share t
at_frame_if share frames t (Some k) = at_frame share frames t k

-- the frame of this domain whose number is the page
abbrev pub frame_at : List ℕ → ℕ → Option ℕ
frame_at numbers page = find (λ k. k == page) numbers

-- AT 10: no table is asked, and the page is the number of the frame
abbrev pub by_number : Share → List (ℕ × List ℕ) → Packet → Handling
by_number share frames t = at_frame_if share frames t (frame_at share.frames (address_of t / 4096))

-- Only memory reads and writes and FetchAdds have an AT field that is looked at, and of those with a translated address
-- reads and writes alone are served
abbrev pub request_at_host : Share → List (ℕ × List ℕ) → Packet → Option AddressType → Handling
request_at_host share frames t None = unserved_by_host share t
request_at_host share frames t (Some Untranslated) = by_table share frames t
request_at_host share frames t (Some TranslationRequest) = unserved_by_host share t
request_at_host share frames t (Some Translated) = if is_memory t.kind then by_number share frames t else unserved_by_host share t
request_at_host share frames t (Some Reserved) = unserved_by_host share t

-- ---- at a port

-- a port that refuses a request of a function, by its own line among these, answers that function
abbrev pub at_port : List DownstreamPort → DownstreamPort → List ℕ → Parties → Handling
at_port ports port bytes (Upward function) = or_discarded (refusal_by port.id function bytes (fate_at ports function port bytes))
at_port ports port bytes (Downward function) = discarded
at_port ports port bytes (Answer answerer addressee) = discarded
