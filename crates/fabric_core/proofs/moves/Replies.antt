-- What a function sends in return for a packet is no request.
use Rattle.std.proofs.Common.{◌≡◌, ℕ, Bool, true, false, cond, List, Option, Some, None, refl, ap, ◌∙◌, subst}
use Rattle.std.specs.Prelude.{⊤, ◌&&◌, option_map}
use Rattle.std.specs.Option.{IfSome}
use Rattle.std.proofs.lemmas.Option.{same_Some}
use Rattle.fab_types.specs.declared.class.Class.{Class}
use Rattle.fab_types.specs.declared.class.Class.TheVariants.{Posted, NonPosted, Completion}
use Rattle.fab_types.specs.declared.faults.malformed.Malformed.{Malformed}
use Rattle.fab_types.specs.declared.head.AddressType.{AddressType}
use Rattle.fab_types.specs.declared.head.Header.TheVariants as header
use Rattle.fab_types.specs.declared.head.Parties.{Parties}
use Rattle.fab_types.specs.declared.head.Parties.TheVariants.{Upward, Downward, Answer}
use Rattle.fab_types.specs.declared.status.Status.{Status}
use Rattle.fab_types.specs.declared.status.Status.TheVariants.{UR, CA}
use Rattle.function.specs.Accesses.{read_data}
use Rattle.host_memory.specs.Pages.{page_of}
use Rattle.platform.specs.declared.parts.DownstreamPort.{DownstreamPort}
use Rattle.platform.specs.Egress.{direct_to, goes_directly, is_peer}
use Rattle.platform.specs.Owners.{bar_of, first_port}
use Rattle.platform.specs.Share.{Share}
use Rattle.tlp_view.specs.Bytes.{packet_of}
use Rattle.tlp_view.specs.Kinds.{class_of_kind, has_address, is_completion}
use Rattle.tlp_view.specs.Malformed.{malformed}
use Rattle.tlp_view.specs.Packet.{Packet}
use Rattle.tlp_view.specs.Completions.{read_completion}
use Rattle.tlp_view.specs.Runs.{is_write}
use Rattle.request_handling.specs.declared.fate.Fate.{Fate}
use Rattle.request_handling.specs.declared.fate.Fate.TheVariants.{Vanish, Refused, ToHost, Direct}
use Rattle.request_handling.specs.declared.handling.Effect.TheVariants.{Access}
use Rattle.request_handling.specs.declared.handling.Handling.{Handling}
use Rattle.request_handling.specs.Answers.{address_of, answered_by, function_answer, function_refusal}
use Rattle.request_handling.specs.AtFunctions.{access_of, is_access, lies_in, or_discarded, request_at_function, unserved}
use Rattle.request_handling.specs.Carries.{carriage_by, carriage_of, is_carried}
use Rattle.request_handling.specs.Emissions.{Emission}
use Rattle.request_handling.specs.Fates.{fate, fate_below, fate_unless, goes_to, stopped}
use Rattle.request_handling.specs.Heads.{head_of, header_unless, packet_header, target_for}
use Rattle.fabric_core.specs.MovesLeft.{is_request}
use Rattle.fabric_core.proofs.moves.Headers.{answers_are_quiet, refusals_are_quiet}

-- what is emitted, if anything, is no request
abbrev pub IsQuiet : Option Emission → Type 0
IsQuiet reply = IfSome reply (λ e. is_request (head_of e).header ≡ false)

-- ---- what a function answers

data_quiet : (share : Share) (function : ℕ) (page : List ℕ) (t : Packet) → IsQuiet (function_answer share function page t)
data_quiet share function page t = go (is_write t.kind)
  where
    go : (b : Bool) → IsQuiet (option_map (answered_by share function t) (cond b None (Some (read_completion function t (read_data page t)))))
    go true = tt
    go false = answers_are_quiet (malformed (answered_by share function t (read_completion function t (read_data page t))).bytes) (answered_by share function t (read_completion function t (read_data page t))).parties function t (read_data page t)

-- an access of its page
abbrev accessing : Share → ℕ → Packet → List ℕ → Handling
accessing share function t page = record { effect = Access function; reply = function_answer share function page t }

page_quiet : (share : Share) (function : ℕ) (t : Packet) (page : Option (List ℕ)) (a : Handling) → option_map (accessing share function t) page ≡ Some a → IsQuiet a.reply
page_quiet share function t None a e = absurd cc
page_quiet share function t (Some page) a e = subst (λ (h : Handling). IsQuiet h.reply) (same_Some (accessing share function t page) a e) (data_quiet share function page t)

or_quiet : (share : Share) (function : ℕ) (t : Packet) (page : Option (List ℕ)) → IsQuiet (or_discarded (option_map (accessing share function t) page)).reply
or_quiet share function t None = tt
or_quiet share function t (Some page) = data_quiet share function page t

refusing_quiet : (share : Share) (function : ℕ) (t : Packet) (class : Class) → IsQuiet (unserved class (function_refusal share function t)).reply
refusing_quiet share function t Posted = tt
refusing_quiet share function t NonPosted = refusals_are_quiet (malformed (function_refusal share function t).bytes) (function_refusal share function t).parties function UR t
refusing_quiet share function t Completion = tt

-- any request that comes to it
pub function_quiet : (share : Share) (registers : List (ℕ × List ℕ)) (function : ℕ) (t : Packet) → IsQuiet (request_at_function share registers function t).reply
function_quiet share registers function t = go (is_access t && lies_in (bar_of share.functions function) (address_of t))
  where
    go : (b : Bool) → IsQuiet (cond b (or_discarded (access_of share registers function t)) (unserved (class_of_kind t.kind) (function_refusal share function t))).reply
    go true = or_quiet share function t (page_of registers function)
    go false = refusing_quiet share function t (class_of_kind t.kind)

-- ---- a request that a function carries

-- it doesn't go to the host
abbrev pub IsElsewhere : List DownstreamPort → List ℕ → Parties → Type 0
IsElsewhere ports bytes (Upward function) = fate ports function bytes ≡ ToHost → ⊥
IsElsewhere ports bytes (Downward function) = ⊤
IsElsewhere ports bytes (Answer answerer addressee) = ⊤

by_fate : (share : Share) (frames registers : List (ℕ × List ℕ)) (bytes : List ℕ) (f : Fate) (a : Handling) → (f ≡ ToHost → ⊥) → carriage_by share frames registers bytes f ≡ Some a → IsQuiet a.reply
by_fate share frames registers bytes Vanish a elsewhere e = absurd cc
by_fate share frames registers bytes (Refused status) a elsewhere e = absurd cc
by_fate share frames registers bytes ToHost a elsewhere e = absurd (elsewhere refl)
by_fate share frames registers bytes (Direct function) a elsewhere e = go (is_carried share (packet_of bytes)) e
  where
    go : (b : Bool) → cond b (Some (request_at_function share registers function (packet_of bytes))) None ≡ Some a → IsQuiet a.reply
    go true e = subst (λ (h : Handling). IsQuiet h.reply) (same_Some _ a e) (function_quiet share registers function (packet_of bytes))
    go false e = absurd cc

pub carriage_quiet : (share : Share) (frames registers : List (ℕ × List ℕ)) (bytes : List ℕ) (parties : Parties) (a : Handling) → IsElsewhere share.ports bytes parties → carriage_of share frames registers bytes parties ≡ Some a → IsQuiet a.reply
carriage_quiet share frames registers bytes (Upward function) a elsewhere e = by_fate share frames registers bytes (fate share.ports function bytes) a elsewhere e
carriage_quiet share frames registers bytes (Downward function) a elsewhere e = page_quiet share function (packet_of bytes) (page_of registers function) a e
carriage_quiet share frames registers bytes (Answer answerer addressee) a elsewhere e = absurd cc

-- ---- whose address leads to a function directly

not_stopped : (status : Status) (class : Class) → stopped status class ≡ ToHost → ⊥
not_stopped status Posted e = cc
not_stopped status NonPosted e = cc
not_stopped status Completion e = cc

by_tests : (fails nowhere blocked : Bool) (class : Class) (direct : Option ℕ) → (direct ≡ None → ⊥) → cond fails (stopped CA class) (cond nowhere (stopped UR class) (cond blocked (stopped CA class) (goes_to direct))) ≡ ToHost → ⊥
by_tests true nowhere blocked class direct h e = not_stopped CA class e
by_tests false true blocked class direct h e = not_stopped UR class e
by_tests false false true class direct h e = not_stopped CA class e
by_tests false false false class None h e = h refl
by_tests false false false class (Some peer) h e = cc

led_somewhere : (function : ℕ) (peer : Option ℕ) → is_peer function peer ≡ true → peer ≡ None → ⊥
led_somewhere function None is none = cc
led_somewhere function (Some peer) is none = cc

-- the address that a header shows
shown_address : (parties : Parties) (t : Packet) (requester address : ℕ) (address_type : AddressType) → packet_header parties t ≡ header.Memory requester address_type address → address_of t ≡ address
shown_address parties t requester address address_type e = go (is_completion t.kind) (has_address t.kind) e
  where
    go : (a b : Bool) → cond a (header.Completion (target_for parties t.requester) t.attributes.relaxed_ordering) (cond b (header.Memory t.requester t.address_type (address_of t)) (header.OtherRequest t.requester)) ≡ header.Memory requester address_type address → address_of t ≡ address
    go true b e = absurd cc
    go false true e = cc
    go false false e = absurd cc

goes_somewhere : (cause : Option Malformed) (ports : List DownstreamPort) (sender : ℕ) (port : DownstreamPort) (bytes : List ℕ) (parties : Parties) (requester address : ℕ) (address_type : AddressType) (function : ℕ)
    → header_unless cause parties bytes ≡ header.Memory requester address_type address → goes_directly ports sender address function ≡ true → fate_unless cause ports sender port bytes ≡ ToHost → ⊥
goes_somewhere (Some cause) ports sender port bytes parties requester address address_type function shown direct e = cc
goes_somewhere None ports sender port bytes parties requester address address_type function shown direct e =
    let same = shown_address parties (packet_of bytes) requester address address_type shown in
    by_tests _ _ _ (class_of_kind (packet_of bytes).kind) (direct_to ports sender (address_of (packet_of bytes)))
    (led_somewhere function (direct_to ports sender (address_of (packet_of bytes))) (ap (λ (n : ℕ). is_peer function (direct_to ports sender n)) same ∙ direct)) e

pub goes_directly_elsewhere : (ports : List DownstreamPort) (sender : ℕ) (bytes : List ℕ) (parties : Parties) (requester address : ℕ) (address_type : AddressType) (function : ℕ)
    → header_unless (malformed bytes) parties bytes ≡ header.Memory requester address_type address → goes_directly ports sender address function ≡ true → fate ports sender bytes ≡ ToHost → ⊥
goes_directly_elsewhere ports sender bytes parties requester address address_type function shown direct e = go (first_port ports sender) e
  where
    go : (port : Option DownstreamPort) → fate_below ports sender port bytes ≡ ToHost → ⊥
    go None e = cc
    go (Some port) e = goes_somewhere (malformed bytes) ports sender port bytes parties requester address address_type function shown direct e
