-- What answers a packet at a port is a completion.
use Rattle.std.proofs.Common.{◌≡◌, ℕ, Bool, true, false, cond, List, Option, Some, None, ap, subst}
use Rattle.std.specs.Option.{IfSome}
use Rattle.fab_types.specs.declared.class.Class.TheVariants.{Completion}
use Rattle.fab_types.specs.declared.faults.malformed.Malformed.{Malformed}
use Rattle.fab_types.specs.declared.head.Parties.{Parties}
use Rattle.fab_types.specs.declared.head.Parties.TheVariants.{Upward, Downward, Answer}
use Rattle.fab_types.specs.declared.place.Place.{Place}
use Rattle.fab_types.specs.declared.status.Status.{Status}
use Rattle.platform.specs.declared.parts.DownstreamPort.{DownstreamPort}
use Rattle.platform.specs.Share.{Share}
use Rattle.tlp_view.specs.Bytes.{packet_of}
use Rattle.tlp_view.specs.Completions.{completion_bytes, refusal}
use Rattle.tlp_view.specs.Costs.{cost_of, cost_unless}
use Rattle.tlp_view.specs.Kinds.{kind_at}
use Rattle.tlp_view.specs.Malformed.{malformed}
use Rattle.tlp_view.specs.Packet.{Packet}
use Rattle.request_handling.specs.declared.fate.Fate.{Fate}
use Rattle.request_handling.specs.declared.fate.Fate.TheVariants.{Vanish, Refused, ToHost, Direct}
use Rattle.domain.specs.declared.receive.Reception.{Reception}
use Rattle.domain.specs.declared.receive.Reception.TheVariants.{Ends, Arrives}
use Rattle.request_handling.specs.declared.taker.Taker.{Taker}
use Rattle.request_handling.specs.declared.taker.Taker.TheVariants.{Host, Function, Port, Upstream}
use Rattle.request_handling.specs.AtFunctions.{or_discarded}
use Rattle.request_handling.specs.Requests.{at_port}
use Rattle.domain.specs.Aliens.{alien, is_excluded, received_if, reception_by, reception_unless}
use Rattle.domain.specs.Receptions.{received}
use Rattle.request_handling.specs.Carries.{refusal_by}
use Rattle.request_handling.specs.Fates.{fate_at}
use Rattle.request_handling.specs.Emissions.{Emission}
use Rattle.domain_state.specs.State.{Alone, Change}
use Rattle.request_handling.specs.Takers.{is_at_port, is_port, taker_of}
use Rattle.domain.proofs.CompletionsRead.{refusal_well}

some_is : {A : Type 0} (x y : A) → Some x ≡ Some y → x ≡ y
some_is x y e = cc

pub answer_class : (completer : ℕ) (status : Status) (t : Packet) → (cost_of (completion_bytes (refusal completer status t))).class ≡ Completion
unfolding kind_at
answer_class completer status t = ap (λ (m : Option Malformed). (cost_unless m (completion_bytes (refusal completer status t))).class) (refusal_well completer status t)

abbrev pub IsReply : Option Emission → Type 0
IsReply reply = IfSome reply (λ e. (cost_of e.bytes).class ≡ Completion)

refused_reply : (port function : ℕ) (bytes : List ℕ) (f : Fate) → IsReply (or_discarded (refusal_by port function bytes f)).reply
refused_reply port function bytes Vanish = tt
refused_reply port function bytes (Refused status) = answer_class port status (packet_of bytes)
refused_reply port function bytes ToHost = tt
refused_reply port function bytes (Direct peer) = tt

port_reply : (ports : List DownstreamPort) (port : DownstreamPort) (bytes : List ℕ) (sender : Parties) → IsReply (at_port ports port bytes sender).reply
port_reply ports port bytes (Upward function) = refused_reply port.id function bytes (fate_at ports function port bytes)
port_reply ports port bytes (Downward function) = tt
port_reply ports port bytes (Answer answerer addressee) = tt

abbrev Replies : Reception → Type 0
Replies (Ends handling) = IsReply handling.reply
Replies (Arrives arrival) = Unit {0}

by_taker : (cause : Option Malformed) (share : Share) (s : Alone) (bytes : List ℕ) (sender : Parties) (taker : Taker) → is_port (Some taker) ≡ true → Replies (reception_unless cause share s bytes sender taker)
by_taker (Some cause) share s bytes sender taker is = tt
by_taker None share s bytes sender Host is = absurd cc
by_taker None share s bytes sender (Function function) is = absurd cc
by_taker None share s bytes sender (Port port) is = port_reply share.ports port bytes sender
by_taker None share s bytes sender Upstream is = tt

of_reception : (s : Alone) (bytes : List ℕ) (r : Reception) → Replies r → IsReply (received s bytes r).emission
of_reception s bytes (Ends handling) replies = replies
of_reception s bytes (Arrives arrival) replies = tt

if_taken : (share : Share) (s : Alone) (bytes : List ℕ) (sender : Parties) (o : Option Taker) (c : Change) → is_port o ≡ true → received_if s bytes (reception_by share s bytes sender o) ≡ Some c → IsReply c.emission
if_taken share s bytes sender None c is e = absurd cc
if_taken share s bytes sender (Some taker) c is e =
    let r = reception_unless (malformed bytes) share s bytes sender taker in
    subst (λ (x : Change). IsReply x.emission) (some_is (received s bytes r) c e) (of_reception s bytes r (by_taker (malformed bytes) share s bytes sender taker is))

unless : (share : Share) (s : Alone) (place : Place) (sender : Parties) (bytes : List ℕ) (excluded : Bool) (c : Change) → is_at_port share place ≡ true
    → received_if s bytes (cond excluded None (reception_by share s bytes sender (taker_of share place))) ≡ Some c → IsReply c.emission
unless share s place sender bytes true c is e = absurd cc
unless share s place sender bytes false c is e = if_taken share s bytes sender (taker_of share place) c is e

-- what the entry of an alien packet emits there is one
pub port_replies : (share : Share) (s : Alone) (place : Place) (sender : Parties) (bytes : List ℕ) (c : Change) → is_at_port share place ≡ true → alien share s place sender bytes ≡ Some c → IsReply c.emission
port_replies share s place sender bytes c is e = unless share s place sender bytes (is_excluded share bytes) c is e
