-- What the heads of packets that keep their order say of where these go.
use Rattle.std.proofs.Common.{◌≡◌, ℕ, ◌==◌, Bool, true, false, ◌&&◌, ◌||◌, not, cond, List, Option, Some, None, refl, sym, ap, ◌∙◌}
use Rattle.std.specs.Prelude.{unwrap_or}
use Rattle.std.proofs.lemmas.Bool.{and_from, false≢true}
use Rattle.fab_types.specs.Id.{bus_of}
use Rattle.fab_types.specs.Controls.{blocks_translated, validates_source}
use Rattle.fab_types.specs.declared.class.Class.{Class}
use Rattle.fab_types.specs.declared.class.Class.TheVariants.{Posted, NonPosted, Completion}
use Rattle.fab_types.specs.declared.faults.malformed.Malformed.{Malformed}
use Rattle.fab_types.specs.declared.head.AddressType.{AddressType}
use Rattle.fab_types.specs.declared.head.AddressType.TheVariants.{Untranslated, TranslationRequest, Translated, Reserved}
use Rattle.fab_types.specs.declared.head.Head.{Head}
use Rattle.fab_types.specs.declared.head.Header.{Header}
use Rattle.fab_types.specs.declared.head.Header.TheVariants as header
use Rattle.fab_types.specs.declared.head.Parties.{Parties}
use Rattle.fab_types.specs.declared.head.Parties.TheVariants.{Upward}
use Rattle.fab_types.specs.declared.status.Status.{Status}
use Rattle.fab_types.specs.declared.status.Status.TheVariants.{CA, UR}
use Rattle.fab_types.specs.declared.violation.Violation.{Violation}
use Rattle.bridge.specs.Bridges.{of_platform}
use Rattle.platform.specs.declared.parts.DownstreamPort.{DownstreamPort}
use Rattle.platform.specs.Egress.{direct_to}
use Rattle.platform.specs.Owners.{first_port, holds_bus}
use Rattle.platform.specs.Platform.{Platform}
use Rattle.platform.specs.Reach.{holds_bus_if_any}
use Rattle.platform.specs.Share.{is_guarded_port}
use Rattle.platform.specs.Tree.{id_below}
use Rattle.tlp_view.specs.declared.kind.Kind.{Kind}
use Rattle.tlp_view.specs.declared.kind.Kind.TheVariants.{MRd, MRdLk, MWr, IORd, IOWr, CfgRd0, CfgWr0, CfgRd1, CfgWr1, Msg, MsgD, Cpl, CplD, CplLk, CplDLk, FetchAdd, Swap, CAS}
use Rattle.tlp_view.specs.Bytes.{packet_of}
use Rattle.tlp_view.specs.Costs.{cost_unless}
use Rattle.tlp_view.specs.Kinds.{class_of_kind, is_completion, has_address}
use Rattle.tlp_view.specs.Malformed.{malformed}
use Rattle.tlp_view.specs.Packet.{Packet, address_in}
use Rattle.request_handling.specs.Answers.{address_of}
use Rattle.request_handling.specs.declared.fate.Fate.{Fate}
use Rattle.request_handling.specs.Fates.{direct_in, fails_egress, fails_source, fails_translation, fate, fate_below, fate_unless, goes_to, is_untranslated, packet_fate, returns_to_sender, stopped}
use Rattle.request_handling.specs.Heads.{head_of, header_unless, packet_header, target_for}
use Rattle.domain.specs.Orders.{IsPosted, direct_from}
use Rattle.request_handling.specs.Emissions.{Emission}
use Rattle.port.specs.Configs.{Config, downstream_config}
use Rattle.port.specs.Courses.{course_of}
use Rattle.port.specs.declared.course.Forwarding.TheVariants.{Stop}
use Rattle.guarded_routes.specs.FirstPorts.{by_fate, report_at, sent_by}
use Rattle.guarded_routes.specs.Guarded.{IsFunctionOf, IsGuarded}
use Rattle.guarded_routes.specs.Sound.{IsCleared, is_reply}
use Rattle.guarded_routes.proofs.Agreement.{agrees}
use Rattle.guarded_routes.proofs.Bytes.{MemoryBytes, goes_on, memory_bytes}
use Rattle.guarded_routes.proofs.Controls.{set_of}
use Rattle.guarded_routes.proofs.Finds.{find_all}
use Rattle.guarded_routes.proofs.Taking.{guarded_first, route_never_stops}
use Rattle.guarded_routes.proofs.Trees.{IsPort}

-- ---- a posted packet is no completion

posted_kind : (k : Kind) → class_of_kind k ≡ Posted → is_completion k ≡ false
posted_kind MRd e = refl
posted_kind MRdLk e = refl
posted_kind MWr e = refl
posted_kind IORd e = refl
posted_kind IOWr e = refl
posted_kind CfgRd0 e = refl
posted_kind CfgWr0 e = refl
posted_kind CfgRd1 e = refl
posted_kind CfgWr1 e = refl
posted_kind Msg e = refl
posted_kind MsgD e = refl
posted_kind Cpl e = absurd cc
posted_kind CplD e = absurd cc
posted_kind CplLk e = absurd cc
posted_kind CplDLk e = absurd cc
posted_kind FetchAdd e = refl
posted_kind Swap e = refl
posted_kind CAS e = refl

plain : (target : ℕ) (relaxed : Bool) (other memory : Header) (a b : Bool) → is_reply other ≡ false → is_reply memory ≡ false → a ≡ false → is_reply (cond a (header.Completion target relaxed) (cond b memory other)) ≡ false
plain target relaxed other memory true b e m is = absurd cc
plain target relaxed other memory false true e m is = m
plain target relaxed other memory false false e m is = e

pub posted_request : (e : Emission) → IsPosted e → is_reply (head_of e).header ≡ false
posted_request e posted = by (malformed e.bytes) posted
  where
    by : (m : Option Malformed) → (cost_unless m e.bytes).class ≡ Posted → is_reply (header_unless m e.parties e.bytes) ≡ false
    by None is = plain _ _ _ _ (is_completion (packet_of e.bytes).kind) (has_address (packet_of e.bytes).kind) refl refl (posted_kind (packet_of e.bytes).kind is)
    by (Some cause) is = refl

-- ---- what the first port lets pass goes to the host, or directly to another function

by_first : (platform : Platform) (g : IsGuarded platform) (function : ℕ) (e : Emission) (requester address : ℕ) (o : Option DownstreamPort) → first_port platform.ports function ≡ o → holds_bus_if_any o (bus_of requester) ≡ true → MemoryBytes e.bytes requester Untranslated address
    → fate platform.ports function e.bytes ≡ goes_to (direct_to platform.ports function address)
by_first platform g function e requester address None first held b = absurd (false≢true held)
by_first platform g function e requester address (Some port) first held b =
    goes_on platform.ports function port e.bytes requester address first (set_of port (find_all (λ (p : DownstreamPort). p.secondary == bus_of function) is_guarded_port platform.ports port first g.controls)) held b

pub cleared_goes : (platform : Platform) (g : IsGuarded platform) (function : ℕ) (e : Emission) (requester address : ℕ) (address_type : AddressType) → (head_of e).header ≡ header.Memory requester address_type address → IsCleared platform function (header.Memory requester address_type address)
    → fate platform.ports function e.bytes ≡ goes_to (direct_to platform.ports function address)
cleared_goes platform g function e requester address address_type same c =
    by_first platform g function e requester address (first_port platform.ports function) refl c.1
    (memory_bytes e.parties e.bytes requester Untranslated address (same ∙ ap (λ (t : AddressType). header.Memory requester t address) c.0))

-- ---- what goes directly to another function

-- its header, which its first port lets pass
pub record DirectHead (platform : Platform) (function : ℕ) (e : Emission) (peer : ℕ) : Type 0 where
  pub requester : ℕ
  pub address : ℕ
  pub address_type : AddressType
  pub same : (head_of e).header ≡ header.Memory requester address_type address
  pub cleared : IsCleared platform function (header.Memory requester address_type address)
  pub direct : direct_to platform.ports function address ≡ Some peer

no_way : (o : Option ℕ) (peer : ℕ) → o ≡ None → o ≡ Some peer → ⊥
no_way o peer none some = let both : None ≡ Some peer = sym none ∙ some in absurd cc

stopped_none : (status : Status) (class : Class) → direct_in (stopped status class) ≡ None
stopped_none status Posted = refl
stopped_none status NonPosted = refl
stopped_none status Completion = refl

-- what none of the tests stops
by_tests : (first second third : Bool) (class : Class) (goes : Option ℕ) (peer : ℕ) → direct_in (cond first (stopped CA class) (cond second (stopped UR class) (cond third (stopped CA class) (goes_to goes)))) ≡ Some peer
    → (first ≡ false) × (second ≡ false) × (goes ≡ Some peer)
by_tests true second third class goes peer e = absurd (no_way _ peer (stopped_none CA class) e)
by_tests false true third class goes peer e = absurd (no_way _ peer (stopped_none UR class) e)
by_tests false false true class goes peer e = absurd (no_way _ peer (stopped_none CA class) e)
by_tests false false false class None peer e = absurd cc
by_tests false false false class (Some other) peer e = (refl, refl, e)

neither : (a b : Bool) → (a || b) ≡ false → (a ≡ false) × (b ≡ false)
neither true b e = absurd cc
neither false b e = (refl, e)

not_false : (b : Bool) → not b ≡ false → b ≡ true
not_false true e = refl
not_false false e = absurd cc

with_first : (a b : Bool) → a ≡ true → (a && b) ≡ false → b ≡ false
with_first true b h e = e
with_first false b h e = absurd (false≢true h)

untranslated : (at : AddressType) → is_untranslated at ≡ true → at ≡ Untranslated
untranslated Untranslated e = refl
untranslated TranslationRequest e = absurd cc
untranslated Translated e = absurd cc
untranslated Reserved e = absurd cc

-- no completion has an address
addressed_kind : (k : Kind) → has_address k ≡ true → is_completion k ≡ false
addressed_kind MRd e = refl
addressed_kind MWr e = refl
addressed_kind FetchAdd e = refl
addressed_kind _ e = absurd cc

module _ (platform : Platform) (g : IsGuarded platform) (function : ℕ) (e : Emission) (peer : ℕ) where
  of_packet : (port : DownstreamPort) → first_port platform.ports function ≡ Some port → malformed e.bytes ≡ None → direct_in (packet_fate platform.ports function port (packet_of e.bytes)) ≡ Some peer → DirectHead platform function e peer
  of_packet port first well is =
      let t = packet_of e.bytes in
      let set = set_of port (find_all (λ (p : DownstreamPort). p.secondary == bus_of function) is_guarded_port platform.ports port first g.controls) in
      let tests = by_tests (fails_source port t || fails_translation port t) (not (has_address t.kind) || returns_to_sender port t) (fails_egress platform.ports port t) (class_of_kind t.kind) (direct_to platform.ports function (address_of t)) peer is in
      let acs = neither (fails_source port t) (fails_translation port t) tests.0 in
      let addressed : has_address t.kind ≡ true = not_false (has_address t.kind) (neither (not (has_address t.kind)) (returns_to_sender port t) tests.1).0 in
      let held : holds_bus port (bus_of t.requester) ≡ true = not_false (holds_bus port (bus_of t.requester)) (with_first (validates_source port.controls) (not (holds_bus port (bus_of t.requester))) set.source acs.0) in
      let plain : is_untranslated t.address_type ≡ true =
      not_false (is_untranslated t.address_type) (with_first (blocks_translated port.controls && has_address t.kind) (not (is_untranslated t.address_type)) (and_from (blocks_translated port.controls) (has_address t.kind) set.translation addressed) acs.1) in
      record {
        requester = t.requester;
        address = address_of t;
        address_type = t.address_type;
        same = ap (λ (m : Option Malformed). header_unless m e.parties e.bytes) well ∙ spelled t addressed;
        cleared = (untranslated t.address_type plain, ap (λ (o : Option DownstreamPort). holds_bus_if_any o (bus_of t.requester)) first ∙ held);
        direct = tests.2;
      }
    where
      spelled : (t : Packet) → has_address t.kind ≡ true → packet_header e.parties t ≡ header.Memory t.requester t.address_type (address_of t)
      spelled t addressed = rw (addressed_kind t.kind addressed, addressed) refl

  unless : (port : DownstreamPort) → first_port platform.ports function ≡ Some port → (m : Option Malformed) → malformed e.bytes ≡ m → direct_in (fate_unless m platform.ports function port e.bytes) ≡ Some peer → DirectHead platform function e peer
  unless port first None well is = of_packet port first well is
  unless port first (Some cause) well is = absurd cc

  below : (o : Option DownstreamPort) → first_port platform.ports function ≡ o → direct_in (fate_below platform.ports function o e.bytes) ≡ Some peer → DirectHead platform function e peer
  below None first is = absurd cc
  below (Some port) first is = unless port first (malformed e.bytes) refl is

  pub direct_head : direct_from platform.ports function e ≡ Some peer → DirectHead platform function e peer
  direct_head is = below (first_port platform.ports function) refl is

-- ---- so it isn't stopped

no_completion : (a b : Bool) (target : ℕ) (relaxed : Bool) (memory other : Header) → is_reply (cond a (header.Completion target relaxed) (cond b memory other)) ≡ false → a ≡ false
no_completion false b target relaxed memory other e = refl
no_completion true b target relaxed memory other e = absurd (false≢true (sym e))

request_kind : (m : Option Malformed) (parties : Parties) (bytes : List ℕ) → m ≡ None → is_reply (header_unless m parties bytes) ≡ false → is_completion (packet_of bytes).kind ≡ false
request_kind (Some cause) parties bytes is plain_one = absurd cc
request_kind None parties bytes is plain_one =
    let t = packet_of bytes in
    no_completion (is_completion t.kind) (has_address t.kind) (target_for parties t.requester) t.attributes.relaxed_ordering (header.Memory t.requester t.address_type (unwrap_or (address_in t.body) 0)) (header.OtherRequest t.requester) plain_one

not_stop : (ports : List DownstreamPort) (config : Config) (line : DownstreamPort) (head : Head) (to : Option ℕ) (report stop : Option Violation) → by_fate ports config line head (goes_to to) report ≡ Stop stop → ⊥
not_stop ports config line head None report stop e = absurd cc
not_stop ports config line head (Some peer) report stop e = route_never_stops ports config line head head.header stop e

-- what goes to the host, or directly to another function
pub not_stopped : (platform : Platform) → IsGuarded platform → (line : DownstreamPort) (domain : ℕ) (e : Emission) (report : Option Violation) → IsPort platform line → IsFunctionOf platform domain (id_below line) → e.parties ≡ Upward (id_below line) → is_reply (head_of e).header ≡ false
    → (to : Option ℕ) → fate platform.ports (id_below line) e.bytes ≡ goes_to to → course_of (of_platform platform) (downstream_config platform line) (head_of e) ≡ Stop report → ⊥
not_stopped platform g line domain e report listed own parties request to goes course =
    let function = id_below line in
    let same : head_of e ≡ head_of (sent_by function e.bytes) = ap (λ (p : Parties). head_of (record { parties = p; bytes = e.bytes })) parties in
    let agreed = agrees (of_platform platform) (downstream_config platform line) line function e.bytes (guarded_first platform g line listed domain own) (λ well. request_kind (malformed e.bytes) e.parties e.bytes well request) in
    not_stop platform.ports (downstream_config platform line) line (head_of (sent_by function e.bytes)) to (report_at line function (head_of (sent_by function e.bytes))) report
    (sym (ap (λ (x : Fate). by_fate platform.ports (downstream_config platform line) line (head_of (sent_by function e.bytes)) x (report_at line function (head_of (sent_by function e.bytes)))) goes)
    ∙ (sym agreed ∙ (ap (course_of (of_platform platform) (downstream_config platform line)) (sym same) ∙ course)))
