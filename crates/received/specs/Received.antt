-- What its home has to do with a packet that the host or a function takes (PCIe 4.0, 2.2.9 and 2.3.1).
use Rattle.std.specs.Prelude.{ℕ, ◌==◌, Bool, true, false, not, List, if◌then◌else◌}
use Rattle.fab_types.specs.Id.{bus_of, host_of}
use Rattle.fab_types.specs.declared.head.Header.{Header}
use Rattle.fab_types.specs.declared.head.Header.TheVariants.{Malformed, Memory, OtherRequest, Completion}
use Rattle.fab_types.specs.declared.head.Parties.{Parties}
use Rattle.fab_types.specs.declared.head.Parties.TheVariants.{Upward, Downward, Answer}
use Rattle.frame_log.specs.Descriptor.{Descriptor}
use Rattle.platform.specs.declared.parts.DownstreamPort.{DownstreamPort}
use Rattle.platform.specs.Egress.{goes_directly}
use Rattle.received.specs.declared.received.Received.{Received}

-- a function's request goes to the host, and the host's requests to functions
abbrev pub request_at_host : Parties → Received
request_at_host (Upward function) = Received.Request
request_at_host (Downward function) = Received.Unknown
request_at_host (Answer answerer addressee) = Received.Unknown

abbrev pub request_at_function : Parties → Received
request_at_function (Upward function) = Received.Unknown
request_at_function (Downward function) = Received.Request
request_at_function (Answer answerer addressee) = Received.Unknown

-- a memory request of another function has come to it directly
abbrev pub memory_at_function : List DownstreamPort → ℕ → ℕ → Parties → Received
memory_at_function ports function address (Upward sender) = if goes_directly ports sender address function then Received.Request else Received.Unknown
memory_at_function ports function address (Downward completer) = request_at_function (Downward completer)
memory_at_function ports function address (Answer answerer addressee) = request_at_function (Answer answerer addressee)

-- bus 00 is the host's own: a completion for the host of the domain that made it is delivered
abbrev pub completion_at_host : ℕ → ℕ → Received
completion_at_host domain target =
    if bus_of target == 0 then (if target == host_of domain then Received.Completion else Received.Unknown)
    else Received.Relayed

abbrev pub received_by_host : ℕ → Parties → Header → Received
received_by_host domain parties Malformed = Received.Unknown
received_by_host domain parties (Memory requester address_type address) = request_at_host parties
received_by_host domain parties (OtherRequest requester) = request_at_host parties
received_by_host domain parties (Completion target relaxed_ordering) = completion_at_host domain target

-- is it one that the host sends down again?
abbrev pub is_relayed : Header → Bool
is_relayed Malformed = false
is_relayed (Memory requester address_type address) = false
is_relayed (OtherRequest requester) = false
is_relayed (Completion target relaxed_ordering) = not (bus_of target == 0)

abbrev pub received_at_host : Descriptor → Received
received_at_host frame = received_by_host frame.domain frame.head.parties frame.head.header

abbrev pub received_by_function : List DownstreamPort → ℕ → Parties → Header → Received
received_by_function ports function parties Malformed = Received.Unknown
received_by_function ports function parties (Memory requester address_type address) = memory_at_function ports function address parties
received_by_function ports function parties (OtherRequest requester) = request_at_function parties
received_by_function ports function parties (Completion target relaxed_ordering) = Received.Completion

-- a function takes what a function or the host of its own domain made
abbrev pub received_at_function : List DownstreamPort → ℕ → Bool → Descriptor → Received
received_at_function ports function is_own frame =
    if is_own then received_by_function ports function frame.head.parties frame.head.header
    else Received.Unknown
