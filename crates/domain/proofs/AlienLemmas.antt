-- What an alien packet does is what the machine says of its entry.
use Rattle.std.proofs.Common.{◌≡◌, ℕ, ◌+◌, ◌*◌, ◌==◌, Bool, true, false, cond, ◌||◌, List, [], ◌∷◌, ◌++◌, length, Option, Some, None, refl, sym, ap, ◌∙◌, subst, inl, inr, arith}
use Rattle.std.specs.Prelude.{◌/◌, nat_lt, option_map}
use Rattle.fab_types.specs.Id.{host_of}
use Rattle.fab_types.specs.declared.faults.malformed.Malformed.{Malformed}
use Rattle.fab_types.specs.declared.head.AddressType.{AddressType}
use Rattle.fab_types.specs.declared.head.AddressType.TheVariants.{Untranslated, TranslationRequest, Translated, Reserved}
use Rattle.fab_types.specs.declared.head.Answerer.{Answerer}
use Rattle.fab_types.specs.declared.head.Parties.{Parties}
use Rattle.fab_types.specs.declared.head.Parties.TheVariants.{Upward, Downward, Answer}
use Rattle.fab_types.specs.declared.origin.Origin.{Origin}
use Rattle.fab_types.specs.declared.origin.Origin.TheVariants as origin
use Rattle.fab_types.specs.declared.place.Place.{Place}
use Rattle.fab_types.specs.declared.status.Status.{Status}
use Rattle.frame_log.specs.Descriptor.{Descriptor}
use Rattle.function.specs.declared.tags.OpenTag.{OpenTag}
use Rattle.platform.specs.declared.parts.DownstreamPort.{DownstreamPort}
use Rattle.platform.specs.Owners.{owner_of}
use Rattle.platform.specs.Share.{Share, is_guarded}
use Rattle.tlp_view.specs.Bytes.{packet_of}
use Rattle.tlp_view.specs.Kinds.{class_of_kind, is_memory}
use Rattle.tlp_view.specs.Malformed.{malformed}
use Rattle.tlp_view.specs.Packet.{Packet, dw_count, status_in}
use Rattle.tlp_view.specs.Runs.{is_write}
use Rattle.tlp_view.specs.View.{address_type_in}
use Rattle.request_handling.specs.declared.handling.Effect.{Effect}
use Rattle.request_handling.specs.declared.handling.Effect.TheVariants.{Leave, Block, Store, Add, Access}
use Rattle.request_handling.specs.declared.handling.Handling.{Handling}
use Rattle.domain.specs.declared.entry.Entry.{Entry}
use Rattle.domain.specs.declared.entry.Entry.TheVariants.{Submit, Tick, Mmio, Refuse, Carry, Deliver, Alien}
use Rattle.request_handling.specs.declared.fate.Fate.{Fate}
use Rattle.request_handling.specs.declared.fate.Fate.TheVariants.{Vanish, Refused, ToHost, Direct}
use Rattle.domain.specs.declared.receive.Reception.{Reception}
use Rattle.domain.specs.declared.receive.Reception.TheVariants.{Ends, Arrives}
use Rattle.request_handling.specs.declared.taker.Taker.{Taker}
use Rattle.request_handling.specs.declared.taker.Taker.TheVariants.{Host, Function, Port, Upstream}
use Rattle.request_handling.specs.AtFunctions.{or_discarded}
use Rattle.request_handling.specs.Requests.{at_frame_if, at_port, by_number, frame_at, request_at_host, unserved_by_host}
use Rattle.domain.specs.Aliens.{answerer_of, at_function_with, at_host_with, is_excluded, received_if, reception_at, reception_by, reception_of, reception_unless}
use Rattle.request_handling.specs.Answers.{address_of, host_refusal}
use Rattle.request_handling.specs.AtFunctions.{discarded}
use Rattle.request_handling.specs.Carries.{from_frame, is_owner, refusal_by, refused_by_host, serve, to_frame}
use Rattle.domain.specs.Deliveries.{arriving_at, is_port}
use Rattle.domain.specs.Domains.{DomainView, Makes}
use Rattle.domain_state.specs.Ends.{BytesFit, EffectFits}
use Rattle.request_handling.specs.Fates.{fate_at}
use Rattle.fab_types.specs.Origins.{origin_id}
use Rattle.request_handling.specs.Heads.{descriptor_of, target_for}
use Rattle.domain.specs.Machine.{aliens_from, aliens_in, change, replay, replay_from, with_alien}
use Rattle.domain.specs.Receptions.{IsReceivable, received}
use Rattle.domain_state.specs.State.{Alone, Change, start_state}
use Rattle.domain_state.specs.Tags.{is_open}
use Rattle.request_handling.specs.Takers.{taker_of}
use Rattle.domain.proofs.Accounting.{aliens_more, goes_on}
use Rattle.domain.proofs.EndLemmas.{serve_fits}
use Rattle.domain.proofs.FunctionFits.{Fits, at_function_fits, both-first, either_fits, or_fits, unserved_fits}
use Rattle.domain.proofs.Keeping.{makes_end, makes_seen}
use Rattle.domain_state.proofs.PageFits.{write_in_page}

abbrev some : {A : Type 0} → A → Option A
some x = Some x

some_is : {A : Type 0} (x y : A) → some x ≡ some y → x ≡ y
some_is x y e = cc

abbrev pub ends : Handling → Reception
ends a = Ends a

-- ---- what is done fits the bytes

-- of what a function sent nothing accesses a page
upward_fits : (b : List ℕ) (d : Effect) → EffectFits (record { parties = Upward 0; bytes = b }) d → BytesFit b d
upward_fits b Leave h = tt
upward_fits b Block h = tt
upward_fits b (Store k first) h = h
upward_fits b (Add k first) h = h
upward_fits b (Access g) (inl h) = absurd cc
upward_fits b (Access g) (inr h) = h

host_fits : (share : Share) (b : List ℕ) (t : Packet) → Fits b (unserved_by_host share t)
host_fits share b t = unserved_fits b (class_of_kind t.kind) (host_refusal share t)

at_frame_fits : (share : Share) (frames : List (ℕ × List ℕ)) (b : List ℕ) (k : Option ℕ) → malformed b ≡ None → Fits b (at_frame_if share frames (packet_of b) k)
at_frame_fits share frames b None good = host_fits share b (packet_of b)
at_frame_fits share frames b (Some k) good =
    let t = packet_of b in
    let is_long = nat_lt 64 (dw_count t.length) in
    either_fits b (is_write t.kind) (to_frame k t) (cond is_long (refused_by_host share t) (from_frame share frames t k)) (λ w. (good, write_in_page b good w))
    (either_fits b is_long (refused_by_host share t) (from_frame share frames t k) (λ _. tt) tt)

at_host_fits : (share : Share) (frames : List (ℕ × List ℕ)) (b : List ℕ) (type : Option AddressType) → malformed b ≡ None → Fits b (request_at_host share frames (packet_of b) type)
at_host_fits share frames b None good = host_fits share b (packet_of b)
at_host_fits share frames b (Some Untranslated) good =
    let t = packet_of b in
    either_fits b (is_owner (owner_of share.ports t.requester) share.domain) (or_discarded (serve share frames t)) (unserved_by_host share t)
    (λ _. or_fits b (serve share frames t) (λ a is. upward_fits b a.effect (serve_fits share frames (record { parties = Upward 0; bytes = b }) a good is)))
    (host_fits share b t)
at_host_fits share frames b (Some TranslationRequest) good = host_fits share b (packet_of b)
at_host_fits share frames b (Some Translated) good =
    let t = packet_of b in
    either_fits b (is_memory t.kind) (by_number share frames t) (unserved_by_host share t) (λ _. at_frame_fits share frames b (frame_at share.frames (address_of t / 4096)) good) (host_fits share b t)
at_host_fits share frames b (Some Reserved) good = host_fits share b (packet_of b)

refusal_fits : (b : List ℕ) (port f : ℕ) (fate : Fate) (a : Handling) → refusal_by port f b fate ≡ Some a → Fits b a
refusal_fits b port f Vanish a e = subst (Fits b) (some_is _ a e) tt
refusal_fits b port f (Refused status) a e = subst (Fits b) (some_is _ a e) tt
refusal_fits b port f ToHost a e = absurd cc
refusal_fits b port f (Direct peer) a e = absurd cc

at_port_fits : (ports : List DownstreamPort) (port : DownstreamPort) (b : List ℕ) (sender : Parties) → Fits b (at_port ports port b sender)
at_port_fits ports port b (Upward f) = or_fits b (refusal_by port.id f b (fate_at ports f port b)) (refusal_fits b port.id f (fate_at ports f port b))
at_port_fits ports port b (Downward g) = tt
at_port_fits ports port b (Answer by x) = tt

-- ---- what is received may be

arrives_open : (tags : List OpenTag) (t : Packet) (b : List ℕ) (by : Answerer) (owner : Origin) (status : Status) → malformed b ≡ None → IsReceivable tags b (Arrives (arriving_at tags t by owner status))
arrives_open tags t b by owner status good = (good, λ e. both-first (is_open tags owner t.tag) (is_port by || (t.requester == origin_id owner)) e)

either_received : (tags : List OpenTag) (b : List ℕ) (test : Bool) (x y : Reception) → IsReceivable tags b x → IsReceivable tags b y → IsReceivable tags b (cond test x y)
either_received tags b true x y of_x of_y = of_x
either_received tags b false x y of_x of_y = of_y

host_received : (o : Option Status) (share : Share) (s : Alone) (b : List ℕ) (sender : Parties) → malformed b ≡ None → IsReceivable s.open_tags b (at_host_with o share s sender (packet_of b))
host_received None share s b sender good = at_host_fits share s.frames b (address_type_in (packet_of b)) good
host_received (Some status) share s b sender good =
    let t = packet_of b in
    either_received s.open_tags b (target_for sender t.requester == host_of share.domain) (Arrives (arriving_at s.open_tags t (answerer_of sender) (origin.Host share.domain) status)) (Ends discarded)
    (arrives_open s.open_tags t b (answerer_of sender) (origin.Host share.domain) status good) tt

function_received : (o : Option Status) (share : Share) (s : Alone) (g : ℕ) (b : List ℕ) (sender : Parties) → malformed b ≡ None → IsReceivable s.open_tags b (at_function_with o share s g sender (packet_of b))
function_received None share s g b sender good = at_function_fits share s.registers g b good
function_received (Some status) share s g b sender good = arrives_open s.open_tags (packet_of b) b (answerer_of sender) (origin.Function g) status good

at_fits : (share : Share) (s : Alone) (b : List ℕ) (sender : Parties) (taker : Taker) → malformed b ≡ None → IsReceivable s.open_tags b (reception_at share s b sender (packet_of b) taker)
at_fits share s b sender Host good = host_received (status_in (packet_of b).body) share s b sender good
at_fits share s b sender (Function g) good = function_received (status_in (packet_of b).body) share s g b sender good
at_fits share s b sender (Port port) good = at_port_fits share.ports port b sender
at_fits share s b sender Upstream good = tt

unless_fits : (m : Option Malformed) (share : Share) (s : Alone) (b : List ℕ) (sender : Parties) (taker : Taker) → malformed b ≡ m → IsReceivable s.open_tags b (reception_unless m share s b sender taker)
unless_fits None share s b sender taker good = at_fits share s b sender taker good
unless_fits (Some cause) share s b sender taker good = tt

by_fits : (share : Share) (s : Alone) (b : List ℕ) (sender : Parties) (taker : Option Taker) (r : Reception) → reception_by share s b sender taker ≡ Some r → IsReceivable s.open_tags b r
by_fits share s b sender None r h = absurd cc
by_fits share s b sender (Some taker) r h = subst (IsReceivable s.open_tags b) (some_is _ r h) (unless_fits (malformed b) share s b sender taker refl)

included : {A : Type 0} (b : Bool) (x : Option A) (y : A) → cond b None x ≡ Some y → x ≡ Some y
included true x y e = absurd cc
included false x y e = e

receivable : (share : Share) (s : Alone) (place : Place) (sender : Parties) (b : List ℕ) (r : Reception) → reception_of share s place sender b ≡ Some r → IsReceivable s.open_tags b r
receivable share s place sender b r h =
    by_fits share s b sender (taker_of share place) r (included (is_excluded share b) (reception_by share s b sender (taker_of share place)) r h)

-- ---- the step

-- the reception that a domain found, as its fields have it
pub found : (v w : DomainView) (place : Place) (sender : Parties) (b : List ℕ) (o : Option Reception) (r : Reception) → v ≡ w → o ≡ Some r → o ≡ reception_of w.share w.state place sender b
    → reception_of v.share v.state place sender b ≡ Some r
found v w place sender b o r same some is = subst (λ (u : DomainView). reception_of u.share u.state place sender b ≡ Some r) (sym same) (sym is ∙ some)

pub found_fits : (share : Share) (s : Alone) (place : Place) (sender : Parties) (b : List ℕ) (r : Reception) → reception_of share s place sender b ≡ Some r → IsReceivable s.open_tags b r
found_fits share s place sender b r h = receivable share s place sender b r h

pub alien_legal : (share : Share) (s t : Alone) (place : Place) (sender : Parties) (b : List ℕ) (r : Reception) → reception_of share s place sender b ≡ Some r → t ≡ (received s b r).state
    → change share s (Alien place sender b) ≡ Some (record { state = t; emission = (received s b r).emission })
alien_legal share s t place sender b r is left =
    ap (received_if s b) is ∙ ap (λ (u : Alone). some (record { state = u; emission = (received s b r).emission })) (sym left)

-- the journal with a copy of the bytes
pub alien_copied : (js js' : List Entry) (place : Place) (sender : Parties) (b copy : List ℕ) → copy ≡ b → js' ≡ js ++ Alien place sender copy ∷ [] → js' ≡ js ++ Alien place sender b ∷ []
alien_copied js js' place sender b copy same grown = grown ∙ ap (λ (x : List ℕ). js ++ Alien place sender x ∷ []) same

-- and its room
pub room_grows : (entries more budget : ℕ) (js js' : List Entry) (place : Place) (sender : Parties) (b : List ℕ) → js' ≡ js ++ Alien place sender b ∷ [] → more ≡ entries + 3
    → entries ≡ 4 * budget + 3 * aliens_in js → more ≡ 4 * budget + 3 * aliens_in js'
room_grows entries more budget js js' place sender b grown is was =
    let one : aliens_in js' ≡ aliens_in js + 1 = aliens_more js js' (Alien place sender b) grown in omega (arith, one, is, was)

pub makes_alien : (v w new : DomainView) (place : Place) (sender : Parties) (b : List ℕ) (r : Reception) (domain : ℕ) (sent : Option Descriptor) → v ≡ w → reception_of v.share v.state place sender b ≡ Some r
    → new.share ≡ v.share → new.journal ≡ v.journal ++ Alien place sender b ∷ [] → new.state ≡ (received v.state b r).state → domain ≡ v.share.domain
    → sent ≡ option_map (descriptor_of domain (length v.state.flight)) (received v.state b r).emission → Makes w (Alien place sender b) new sent
makes_alien v w new place sender b r domain sent same is share journal state of is_sent =
    makes_seen v w new (Alien place sender b) sent same
    (makes_end v new (Alien place sender b) (received v.state b r).emission sent share journal (alien_legal v.share v.state new.state place sender b r is state)
    (is_sent ∙ ap (λ (d : ℕ). option_map (descriptor_of d (length v.state.flight)) (received v.state b r).emission) of))

-- ---- in a guarded layout there is none

guarded_none : (share : Share) (s : Alone) (b : List ℕ) (guarded long : Bool) (o : Option Reception) (c : Change) → guarded ≡ true → received_if s b (cond (guarded || long) None o) ≡ Some c → ⊥
guarded_none share s b true long o c e h = cc
guarded_none share s b false long o c e h = cc

guarded_one : (share : Share) (s : Alone) (x : Entry) (c : Change) (n : ℕ) → is_guarded share ≡ true → change share s x ≡ Some c → with_alien x n ≡ n
guarded_one share s (Submit f b) c n e h = refl
guarded_one share s (Tick f) c n e h = refl
guarded_one share s (Mmio a) c n e h = refl
guarded_one share s (Refuse k) c n e h = refl
guarded_one share s (Carry k) c n e h = refl
guarded_one share s (Deliver k) c n e h = refl
guarded_one share s (Alien place sender b) c n e h =
    absurd (guarded_none share s b (is_guarded share) (nat_lt 272 (length b)) (reception_by share s b sender (taker_of share place)) c e h)

guarded_from : (share : Share) (s : Alone) (n : ℕ) (js : List Entry) (t : Alone) → is_guarded share ≡ true → replay_from share (Some s) js ≡ Some t → aliens_from n js ≡ n
guarded_from share s n [] t e h = refl
guarded_from share s n (x ∷ js) t e h =
    goes_on share js (change share s x) t (λ c is rest. guarded_from share c.state (with_alien x n) js t e rest ∙ guarded_one share s x c n e is) h

pub guarded_journal : (share : Share) (js : List Entry) (s : Alone) → is_guarded share ≡ true → replay share js ≡ Some s → aliens_in js ≡ 0
guarded_journal share js s e h = guarded_from share (start_state share) 0 js s e h
