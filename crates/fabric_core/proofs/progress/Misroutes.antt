-- A port that misroutes a packet, in a layout that isn't guarded, answers it only where it is a non-posted request.
use Rattle.std.proofs.Common.{◌≡◌, ℕ, Bool, true, false, cond, List, Option, Some, None, refl, sym, ap, ◌∙◌, subst}
use Rattle.std.specs.Prelude.{⊤, option_map, slice_get}
use Rattle.std.specs.Option.{IfSome}
use Rattle.std.proofs.lemmas.Option.{same_Some}
use Rattle.fab_types.specs.declared.class.Class.TheVariants.{NonPosted}
use Rattle.fab_types.specs.declared.faults.malformed.Malformed.{Malformed}
use Rattle.fab_types.specs.declared.head.Parties.{Parties}
use Rattle.fab_types.specs.declared.head.Parties.TheVariants.{Upward, Downward, Answer}
use Rattle.fab_types.specs.declared.place.Place.{Place}
use Rattle.fab_types.specs.declared.status.Status.{Status}
use Rattle.frame_log.specs.Descriptor.{Descriptor}
use Rattle.lane.specs.Lanes.{class_of}
use Rattle.platform.specs.declared.parts.DownstreamPort.{DownstreamPort}
use Rattle.platform.specs.Share.{Share}
use Rattle.tlp_view.specs.Costs.{cost_of}
use Rattle.tlp_view.specs.Malformed.{malformed}
use Rattle.domain.specs.Aliens.{is_excluded, received_if, reception_by, reception_unless}
use Rattle.domain.specs.Domains.{DomainView}
use Rattle.domain.specs.Machine.{change}
use Rattle.domain.specs.Receptions.{received}
use Rattle.domain.specs.declared.entry.Entry.TheVariants.{Alien}
use Rattle.domain_state.specs.State.{Alone, Change}
use Rattle.domains.specs.Aliens.{aliened, aliened_by}
use Rattle.domains.specs.Domains.{Made, domain_at, made_at, made_by, made_of, place_of}
use Rattle.request_handling.specs.declared.fate.Fate.{Fate}
use Rattle.request_handling.specs.declared.fate.Fate.TheVariants.{Vanish, Refused, ToHost, Direct}
use Rattle.request_handling.specs.declared.taker.Taker.{Taker}
use Rattle.request_handling.specs.declared.taker.Taker.TheVariants.{Host, Function, Port, Upstream}
use Rattle.request_handling.specs.AtFunctions.{or_discarded}
use Rattle.request_handling.specs.Carries.{refusal_by}
use Rattle.request_handling.specs.Emissions.{Emission}
use Rattle.request_handling.specs.Fates.{fate_at}
use Rattle.request_handling.specs.Heads.{descriptor_of}
use Rattle.request_handling.specs.Requests.{at_port}
use Rattle.request_handling.specs.Takers.{is_at_port, is_port, taker_of}
use Rattle.fabric_core.specs.Misrouting.{is_at_port_in, is_at_port_of}
use Rattle.fabric_core.specs.Places.{IsFlown}
use Rattle.fabric_core.proofs.effect.Answered.{refused_unless}

-- what answers bytes, if anything does, answers a non-posted request
abbrev Only : List ℕ → Option Emission → Type 0
Only bytes reply = IfSome reply (λ e. (cost_of bytes).class ≡ NonPosted)

-- ---- at a port

refused_only : (port function : ℕ) (bytes : List ℕ) (f : Fate) → ((status : Status) → f ≡ Refused status → (cost_of bytes).class ≡ NonPosted) → Only bytes (or_discarded (refusal_by port function bytes f)).reply
refused_only port function bytes Vanish h = tt
refused_only port function bytes (Refused status) h = h status refl
refused_only port function bytes ToHost h = tt
refused_only port function bytes (Direct peer) h = tt

port_only : (ports : List DownstreamPort) (port : DownstreamPort) (bytes : List ℕ) (sender : Parties) → Only bytes (at_port ports port bytes sender).reply
port_only ports port bytes (Upward function) = refused_only port.id function bytes (fate_at ports function port bytes) (λ status e. refused_unless (malformed bytes) ports function port bytes status e)
port_only ports port bytes (Downward function) = tt
port_only ports port bytes (Answer answerer addressee) = tt

by_taker : (cause : Option Malformed) (share : Share) (s : Alone) (bytes : List ℕ) (sender : Parties) (taker : Taker) → is_port (Some taker) ≡ true → Only bytes (received s bytes (reception_unless cause share s bytes sender taker)).emission
by_taker (Some cause) share s bytes sender taker is = tt
by_taker None share s bytes sender Host is = absurd cc
by_taker None share s bytes sender (Function function) is = absurd cc
by_taker None share s bytes sender (Port port) is = port_only share.ports port bytes sender
by_taker None share s bytes sender Upstream is = tt

if_taken : (share : Share) (s : Alone) (bytes : List ℕ) (sender : Parties) (o : Option Taker) (c : Change) → is_port o ≡ true → received_if s bytes (reception_by share s bytes sender o) ≡ Some c → Only bytes c.emission
if_taken share s bytes sender None c is e = absurd cc
if_taken share s bytes sender (Some taker) c is e =
    subst (λ (x : Change). Only bytes x.emission) (same_Some (received s bytes (reception_unless (malformed bytes) share s bytes sender taker)) c e) (by_taker (malformed bytes) share s bytes sender taker is)

unless : (share : Share) (s : Alone) (place : Place) (sender : Parties) (bytes : List ℕ) (excluded : Bool) (c : Change) → is_at_port share place ≡ true
    → received_if s bytes (cond excluded None (reception_by share s bytes sender (taker_of share place))) ≡ Some c → Only bytes c.emission
unless share s place sender bytes true c is e = absurd cc
unless share s place sender bytes false c is e = if_taken share s bytes sender (taker_of share place) c is e

-- ---- among all domains

-- the same of what an entry makes
abbrev OnlyMade : List ℕ → Option Made → Type 0
OnlyMade bytes None = ⊤
OnlyMade bytes (Some m) = IfSome m.sent (λ answer. (cost_of bytes).class ≡ NonPosted)

sent_only : (domain n : ℕ) (bytes : List ℕ) (o : Option Emission) → Only bytes o → IfSome (option_map (descriptor_of domain n) o) (λ answer. (cost_of bytes).class ≡ NonPosted)
sent_only domain n bytes None only = tt
sent_only domain n bytes (Some e) only = only

by_change : (domains : List DomainView) (i : ℕ) (d : DomainView) (place : Place) (sender : Parties) (bytes : List ℕ) (o : Option Change) → change d.share d.state (Alien place sender bytes) ≡ o → is_at_port d.share place ≡ true
    → OnlyMade bytes (option_map (made_by domains i (Alien place sender bytes) d) o)
by_change domains i d place sender bytes None e is = tt
by_change domains i d place sender bytes (Some c) e is = sent_only d.share.domain _ bytes c.emission (unless d.share d.state place sender bytes (is_excluded d.share bytes) c is e)

by_domain : (domains : List DomainView) (i : ℕ) (o : Option DomainView) (place : Place) (sender : Parties) (bytes : List ℕ) → is_at_port_in o place ≡ true → OnlyMade bytes (made_of domains i (Alien place sender bytes) o)
by_domain domains i None place sender bytes is = tt
by_domain domains i (Some d) place sender bytes is = by_change domains i d place sender bytes (change d.share d.state (Alien place sender bytes)) refl is

by_place : (domains : List DomainView) (at : Option ℕ) (place : Place) (sender : Parties) (bytes : List ℕ) → is_at_port_in (domain_at domains at) place ≡ true → OnlyMade bytes (made_at domains (Alien place sender bytes) at)
by_place domains None place sender bytes is = tt
by_place domains (Some i) place sender bytes is = by_domain domains i (slice_get domains i) place sender bytes is

-- a packet that is answered where its home has an entry of it is non-posted
pub answered_class : (domains : List DomainView) (place : Place) (frame : Descriptor) (m : Made) (answer : Descriptor) → IsFlown domains frame → is_at_port_of domains frame.domain place ≡ true → aliened domains frame.domain place frame ≡ Some m → m.sent ≡ Some answer
    → class_of frame ≡ NonPosted
answered_class domains place frame m answer f is made sent =
    let bytes = f.emission.bytes in
    let entry : made_at domains (Alien place frame.head.parties f.emission.bytes) (place_of domains frame.domain) ≡ Some m =
    sym (ap (aliened_by domains (place_of domains frame.domain) place frame.head.parties) f.in_flight) ∙ made in
    let only : OnlyMade f.emission.bytes (Some m) = subst (OnlyMade f.emission.bytes) entry (by_place domains (place_of domains frame.domain) place frame.head.parties f.emission.bytes is) in
    ap class_of f.shown ∙ subst (λ (o : Option Descriptor). IfSome o (λ answer. (cost_of f.emission.bytes).class ≡ NonPosted)) sent only
