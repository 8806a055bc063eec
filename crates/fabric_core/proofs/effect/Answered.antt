-- A port answers no packet but a non-posted request, and its answer is a completion.
use Rattle.std.proofs.Common.{◌≡◌, ℕ, Bool, true, false, cond, List, length, Option, Some, None, refl, sym, ap, ◌∙◌, subst}
use Rattle.std.specs.Prelude.{option_map, slice_get}
use Rattle.fab_types.specs.declared.class.Class.{Class}
use Rattle.fab_types.specs.declared.class.Class.TheVariants.{Posted, NonPosted, Completion}
use Rattle.fab_types.specs.declared.faults.malformed.Malformed.{Malformed}
use Rattle.fab_types.specs.declared.head.Parties.{Parties}
use Rattle.fab_types.specs.declared.head.Parties.TheVariants.{Upward, Downward, Answer}
use Rattle.fab_types.specs.declared.status.Status.{Status}
use Rattle.fab_types.specs.declared.status.Status.TheVariants.{UR, CA}
use Rattle.frame_log.specs.Descriptor.{Descriptor}
use Rattle.platform.specs.declared.parts.DownstreamPort.{DownstreamPort}
use Rattle.platform.specs.Egress.{direct_to}
use Rattle.platform.specs.Owners.{first_port}
use Rattle.platform.specs.Share.{Share}
use Rattle.tlp_view.specs.Bytes.{packet_of}
use Rattle.tlp_view.specs.Costs.{cost_of, cost_unless}
use Rattle.tlp_view.specs.Kinds.{class_of_kind}
use Rattle.tlp_view.specs.Malformed.{malformed}
use Rattle.tlp_view.specs.Packet.{Packet}
use Rattle.domain.specs.declared.entry.Entry.TheVariants.{Refuse}
use Rattle.request_handling.specs.declared.fate.Fate.{Fate}
use Rattle.request_handling.specs.declared.fate.Fate.TheVariants.{Vanish, Refused, ToHost, Direct}
use Rattle.request_handling.specs.declared.handling.Handling.{Handling}
use Rattle.request_handling.specs.Answers.{address_of, port_answer}
use Rattle.request_handling.specs.AtFunctions.{discarded}
use Rattle.request_handling.specs.Carries.{answer_refusal, port_id, refusal_by, refusal_of}
use Rattle.request_handling.proofs.Discarding.{answer_discarded}
use Rattle.domain.specs.Domains.{DomainView}
use Rattle.domain_state.specs.Ends.{conclude}
use Rattle.request_handling.specs.Fates.{fate, fate_below, fate_unless, goes_to, packet_fate, stopped}
use Rattle.request_handling.specs.Heads.{descriptor_of}
use Rattle.domain.specs.Machine.{change, refuse}
use Rattle.domain.proofs.PortAnswers.{answer_class}
use Rattle.request_handling.specs.Emissions.{Emission}
use Rattle.domain_state.specs.State.{Alone, Change, item_at}
use Rattle.lane.specs.Lanes.{class_of}
use Rattle.domains.specs.Domains.{Made, domain_at, made, made_at, made_by, made_of, place_of}
use Rattle.fabric_core.specs.Places.{IsFlown, flown_by}

abbrev some : {A : Type 0} → A → Option A
some x = Some x

some_is : {A : Type 0} (x y : A) → some x ≡ some y → x ≡ y
some_is x y e = cc

-- ---- what is refused with an answer

stopped_refused : (s status : Status) (c : Class) → stopped s c ≡ Refused status → c ≡ NonPosted
stopped_refused s status Posted e = absurd cc
stopped_refused s status NonPosted e = refl
stopped_refused s status Completion e = absurd cc

by_tests : (fails goes_nowhere blocked : Bool) (c : Class) (direct : Option ℕ) (status : Status) → cond fails (stopped CA c) (cond goes_nowhere (stopped UR c) (cond blocked (stopped CA c) (goes_to direct))) ≡ Refused status → c ≡ NonPosted
by_tests true nowhere blocked c direct status e = stopped_refused CA status c e
by_tests false true blocked c direct status e = stopped_refused UR status c e
by_tests false false true c direct status e = stopped_refused CA status c e
by_tests false false false c None status e = absurd cc
by_tests false false false c (Some peer) status e = absurd cc

packet_refused : (ports : List DownstreamPort) (function : ℕ) (port : DownstreamPort) (t : Packet) (status : Status) → packet_fate ports function port t ≡ Refused status → class_of_kind t.kind ≡ NonPosted
packet_refused ports function port t status e = by_tests _ _ _ (class_of_kind t.kind) (direct_to ports function (address_of t)) status e

pub refused_unless : (m : Option Malformed) (ports : List DownstreamPort) (function : ℕ) (port : DownstreamPort) (bytes : List ℕ) (status : Status) → fate_unless m ports function port bytes ≡ Refused status → (cost_unless m bytes).class ≡ NonPosted
refused_unless None ports function port bytes status e = packet_refused ports function port (packet_of bytes) status e
refused_unless (Some cause) ports function port bytes status e = absurd cc

refused_below : (ports : List DownstreamPort) (function : ℕ) (port : Option DownstreamPort) (bytes : List ℕ) (status : Status) → fate_below ports function port bytes ≡ Refused status → (cost_of bytes).class ≡ NonPosted
refused_below ports function None bytes status e = absurd cc
refused_below ports function (Some port) bytes status e = refused_unless (malformed bytes) ports function port bytes status e

-- ---- what answers it

-- the classes of a packet and of what answers it
abbrev AreClasses : List ℕ → Emission → Type 0
AreClasses bytes reply = ((cost_of bytes).class ≡ NonPosted) × ((cost_of reply.bytes).class ≡ Completion)

refused_by : (s : Alone) (n port function : ℕ) (bytes : List ℕ) (f : Fate) (c : Change) (reply : Emission) → ((status : Status) → f ≡ Refused status → (cost_of bytes).class ≡ NonPosted)
    → option_map (conclude s n bytes) (refusal_by port function bytes f) ≡ Some c → c.emission ≡ Some reply → AreClasses bytes reply
refused_by s n port function bytes Vanish c reply h e is = let none : None ≡ c.emission = ap (λ (x : Change). x.emission) (some_is _ c e) in absurd cc
refused_by s n port function bytes (Refused status) c reply h e is =
    let same : port_answer port function status (packet_of bytes) ≡ reply = some_is _ reply (ap (λ (x : Change). x.emission) (some_is _ c e) ∙ is) in
    (h status refl, ap (λ (x : Emission). (cost_of x.bytes).class) (sym same) ∙ answer_class port status (packet_of bytes))
refused_by s n port function bytes ToHost c reply h e is = absurd cc
refused_by s n port function bytes (Direct peer) c reply h e is = absurd cc

discarded_of : (s : Alone) (n : ℕ) (bytes : List ℕ) (o : Option Handling) (c : Change) (reply : Emission) → ((a : Handling) → o ≡ Some a → a ≡ discarded) → option_map (conclude s n bytes) o ≡ Some c → c.emission ≡ Some reply → AreClasses bytes reply
discarded_of s n bytes None c reply h e is = absurd cc
discarded_of s n bytes (Some a) c reply h e is =
    let same : option_map (conclude s n bytes) (Some discarded) ≡ Some c = ap (λ (a : Handling). option_map (conclude s n bytes) (Some a)) (sym (h a refl)) ∙ e in
    let none : None ≡ c.emission = ap (λ (x : Change). x.emission) (some_is _ c same) in
    absurd cc

refused_of : (share : Share) (s : Alone) (n : ℕ) (bytes : List ℕ) (parties : Parties) (c : Change) (reply : Emission) → option_map (conclude s n bytes) (refusal_of share bytes parties) ≡ Some c → c.emission ≡ Some reply → AreClasses bytes reply
refused_of share s n bytes (Upward function) c reply e is =
    let port = first_port share.ports function in
    refused_by s n (port_id port) function bytes (fate share.ports function bytes) c reply (λ status f. refused_below share.ports function port bytes status f) e is
refused_of share s n bytes (Downward function) c reply e is = absurd cc
refused_of share s n bytes (Answer answerer addressee) c reply e is =
    discarded_of s n bytes (answer_refusal share (malformed bytes) answerer (packet_of bytes)) c reply (λ a h. answer_discarded share (malformed bytes) answerer (packet_of bytes) a h) e is

refuse_answers : (share : Share) (s : Alone) (n : ℕ) (e : Emission) (item : Option Emission) (c : Change) (reply : Emission) → item ≡ Some e → refuse share s n item ≡ Some c → c.emission ≡ Some reply → AreClasses e.bytes reply
refuse_answers share s n e None c reply flown made is = absurd cc
refuse_answers share s n e (Some x) c reply flown made is =
    subst (λ (y : Emission). AreClasses y.bytes reply) (some_is x e flown) (refused_of share s n x.bytes x.parties c reply made is)

-- ---- among all domains

sent_is : (f : Emission → Descriptor) (o : Option Emission) (answer : Descriptor) → option_map f o ≡ Some answer → (reply : Emission) × (o ≡ Some reply) × (f reply ≡ answer)
sent_is f None answer e = absurd cc
sent_is f (Some reply) answer e = (reply, refl, some_is _ answer e)

made_with : (f : Change → Made) (o : Option Change) (m : Made) → option_map f o ≡ Some m → (c : Change) × (o ≡ Some c) × (f c ≡ m)
made_with f None m e = absurd cc
made_with f (Some c) m e = (c, refl, some_is _ m e)

at_home : (domains : List DomainView) (place n : ℕ) (home : Option DomainView) (e : Emission) (m : Made) (answer : Descriptor) → flown_by n home ≡ Some e → made_of domains place (Refuse n) home ≡ Some m → m.sent ≡ Some answer
    → ((cost_of e.bytes).class ≡ NonPosted) × (class_of answer ≡ Completion)
at_home domains place n None e m answer flown is sent = absurd cc
at_home domains place n (Some d) e m answer flown is sent =
    let done = made_with (made_by domains place (Refuse n) d) (change d.share d.state (Refuse n)) m is in
    let emitted = sent_is (descriptor_of d.share.domain (length d.state.flight)) done.0.emission answer (ap (λ (x : Made). x.sent) done.2 ∙ sent) in
    let classes = refuse_answers d.share d.state n e (item_at d.state.flight n) done.0 emitted.0 flown done.1 emitted.1 in
    (classes.0, ap class_of (sym emitted.2) ∙ classes.1)

at_place : (domains : List DomainView) (n : ℕ) (place : Option ℕ) (e : Emission) (m : Made) (answer : Descriptor) → flown_by n (domain_at domains place) ≡ Some e → made_at domains (Refuse n) place ≡ Some m → m.sent ≡ Some answer
    → ((cost_of e.bytes).class ≡ NonPosted) × (class_of answer ≡ Completion)
at_place domains n None e m answer flown is sent = absurd cc
at_place domains n (Some place) e m answer flown is sent = at_home domains place n (slice_get domains place) e m answer flown is sent

-- what a port has refused is answered only where it is a non-posted request, and by a completion
pub only_non_posted_are_answered : (domains : List DomainView) (frame : Descriptor) (m : Made) → IsFlown domains frame → made domains frame.domain (Refuse frame.number) ≡ Some m → (answer : Descriptor) → m.sent ≡ Some answer
    → (class_of frame ≡ NonPosted) × (class_of answer ≡ Completion)
only_non_posted_are_answered domains frame m f is answer sent =
    let classes = at_place domains frame.number (place_of domains frame.domain) f.emission m answer f.in_flight is sent in
    (ap class_of f.shown ∙ classes.0, classes.1)
