-- What a port reports is of a function of the packet's home, in a guarded fabric.
use Rattle.std.proofs.Common.{◌≡◌, ℕ, ◌==◌, Bool, true, false, cond, List, get_or, Option, Some, None, inl, inr, refl, sym, ap, ◌∙◌, subst, arith}
use Rattle.std.specs.Prelude.{⊤, Result, Ok, Err, option_map}
use Rattle.std.specs.Option.{option_and_then}
use Rattle.std.proofs.lemmas.List.Quantifiers.{position-Some}
use Rattle.std.proofs.lemmas.Option.{same_Some}
use Rattle.fab_types.specs.declared.class.Class.{Class}
use Rattle.fab_types.specs.declared.head.AddressType.{AddressType}
use Rattle.fab_types.specs.declared.head.Answerer.{Answerer}
use Rattle.fab_types.specs.declared.head.Answerer.TheVariants as by
use Rattle.fab_types.specs.declared.head.Head.{Head}
use Rattle.fab_types.specs.declared.head.Header.{Header}
use Rattle.fab_types.specs.declared.head.Header.TheVariants as header
use Rattle.fab_types.specs.declared.head.Parties.{Parties}
use Rattle.fab_types.specs.declared.head.Parties.TheVariants.{Answer, Downward, Upward}
use Rattle.fab_types.specs.declared.origin.Origin.{Origin}
use Rattle.fab_types.specs.declared.place.Direction.{Direction}
use Rattle.fab_types.specs.declared.place.Way.{Way}
use Rattle.fab_types.specs.declared.place.Way.TheVariants.{Down, Up}
use Rattle.fab_types.specs.declared.violation.Check.{Check}
use Rattle.fab_types.specs.declared.violation.Violation.{Violation}
use Rattle.frame_log.specs.Descriptor.{Descriptor}
use Rattle.platform.specs.declared.parts.DownstreamPort.{DownstreamPort}
use Rattle.platform.specs.declared.parts.Switch.{Switch}
use Rattle.platform.specs.Platform.{Platform}
use Rattle.platform.specs.Tree.{id_below}
use Rattle.bridge.specs.Bridges.{Routes}
use Rattle.bridge.specs.Routes.{route_of, target_of}
use Rattle.bridge.specs.declared.route.Route.{Route}
use Rattle.bridge.specs.declared.route.Route.TheVariants as route
use Rattle.bridge.specs.declared.target.Target.{Target}
use Rattle.acs.specs.declared.vetting.Verdict.{Verdict}
use Rattle.acs.specs.declared.vetting.Verdict.TheVariants as verdict
use Rattle.acs.specs.Redirection.{redirected}
use Rattle.acs.specs.Vetting.{requester_of, verdict_of}
use Rattle.port.specs.Configs.{Config, lane_to}
use Rattle.port.specs.Courses.{course_at, course_of, down_by, down_lane, led, report_of, reported_by, returned_from, routed, stopped_answer, stopped_from, tested, up_by}
use Rattle.port.specs.declared.config.Exit.{Exit}
use Rattle.port.specs.declared.course.Forwarding.{Forwarding}
use Rattle.port.specs.declared.course.Forwarding.TheVariants.{To, Stop, NoCase}
use Rattle.domain.specs.Domains.{DomainView}
use Rattle.domains.specs.Domains.{domain_at, place_of_function}
use Rattle.topology.specs.Links.{sender_of}
use Rattle.topology.specs.Topologies.{Tree}
use Rattle.topology.specs.declared.nodes.LinkEnd.{LinkEnd}
use Rattle.topology.specs.declared.places.PortPlace.{PortPlace}
use Rattle.topology.proofs.Brought.{downstream_input, upstream_input}
use Rattle.topology.proofs.Members.{found}
use Rattle.interconnect.specs.Passes.{index_of, no_place}
use Rattle.guarded_routes.specs.Guarded.{IsFunctionOf}
use Rattle.guarded_routes.specs.Sound.{IsAsked, IsMeantFor, IsSound, IsSoundOn}
use Rattle.fabric_core.specs.declared.event.Event.{Event}
use Rattle.fabric_core.specs.declared.event.Event.TheVariants.{Arrive, Credit, Enter, Mmio, Pass, Root, Send, Submit, Take, Tick}
use Rattle.fabric_core.specs.Arrivals.{Taken, taken_at}
use Rattle.fabric_core.specs.Invariant.{IsConsistent}
use Rattle.fabric_core.specs.Isolation.{home_of_taken, home_passed, is_event_of, is_number, number_of}
use Rattle.fabric_core.specs.Passing.{port_number}
use Rattle.fabric_core.specs.Soundness.{IsGuardedFabric}
use Rattle.fabric_core.specs.TakenOut.{is_by}
use Rattle.fabric_core.specs.World.{World}
use Rattle.fabric_core.proofs.soundness.GuardedArrival.{function_home}
use Rattle.fabric_core.proofs.soundness.GuardedEnds.{soundly_taken}
use Rattle.fabric_core.proofs.soundness.Sites.{Standing, standing}

-- ---- what is reported names its sender

-- a report, if this course makes one, is of what this party sent
abbrev NamesSender : Parties → Forwarding → Type 0
NamesSender parties (To output) = ⊤
NamesSender parties (Stop None) = ⊤
NamesSender parties (Stop (Some v)) = parties ≡ Upward v.sender
NamesSender parties NoCase = ⊤

reports_sender : (line : DownstreamPort) (head : Head) (function : ℕ) (check : Check) (o : Option ℕ) → NamesSender (Upward function) (Stop (option_map (report_of line head function check) o))
reports_sender line head function check None = tt
reports_sender line head function check (Some requester) = refl

check_named : (line : DownstreamPort) (head : Head) (function : ℕ) (o : Option Check) → NamesSender (Upward function) (Stop (reported_by line head function o))
check_named line head function None = tt
check_named line head function (Some check) = reports_sender line head function check (requester_of head.header)

if_first : (b : Bool) (parties : Parties) (course : Forwarding) → NamesSender parties course → NamesSender parties (cond b course NoCase)
if_first true parties course named = named
if_first false parties course named = tt

stopped_named : (line : DownstreamPort) (head : Head) (o : Option Check) (parties : Parties) → NamesSender parties (stopped_from line head o parties)
stopped_named line head o (Upward function) = if_first (function == id_below line) (Upward function) (Stop (reported_by line head function o)) (check_named line head function o)
stopped_named line head o (Downward function) = tt
stopped_named line head o (Answer answerer addressee) = tt

answer_named : (line : DownstreamPort) (answerer : Answerer) (x : Option Origin) → NamesSender (Answer answerer x) (stopped_answer line answerer)
answer_named line by.Port x = tt
answer_named line by.Host x = tt
answer_named line (by.Function function) x = if_first (function == id_below line) (Answer (by.Function function) x) (Stop None) tt

returned_named : (line : DownstreamPort) (head : Head) (parties : Parties) → NamesSender parties (returned_from line head parties)
returned_named line head (Upward function) = stopped_named line head None (Upward function)
returned_named line head (Downward function) = tt
returned_named line head (Answer answerer addressee) = answer_named line answerer addressee

output_named : (parties : Parties) (o : Option ℕ) → NamesSender parties (down_lane o)
output_named parties None = tt
output_named parties (Some output) = tt

up_named : (config : Config) (line : DownstreamPort) (head : Head) (way : Route) → NamesSender head.parties (up_by config line head way)
up_named config line head route.Up = tt
up_named config line head (route.Port other) = output_named head.parties (lane_to config.exits other)
up_named config line head route.OwnEgress = returned_named line head head.parties
up_named config line head route.Nobody = tt

led_named : (config : Config) (line : DownstreamPort) (head : Head) (r : Result Route Verdict) → NamesSender head.parties (led config line head r)
led_named config line head (Ok way) = up_named config line head way
led_named config line head (Err verdict.Pass) = stopped_named line head None head.parties
led_named config line head (Err (verdict.Violation check)) = stopped_named line head (Some check) head.parties

routed_named : (tree : Routes) (config : Config) (line : DownstreamPort) (head : Head) (o : Option Target) → NamesSender head.parties (routed tree config line head o)
routed_named tree config line head None = stopped_named line head None head.parties
routed_named tree config line head (Some target) = led_named config line head (redirected line (route_of tree.switches tree.ports config.id head.header) head.header)

tested_named : (tree : Routes) (config : Config) (line : DownstreamPort) (head : Head) (v : Verdict) → NamesSender head.parties (tested tree config line head v)
tested_named tree config line head (verdict.Violation check) = stopped_named line head (Some check) head.parties
tested_named tree config line head verdict.Pass = routed_named tree config line head (target_of head.header)

down_named : (exits : List Exit) (parties : Parties) (way : Route) → NamesSender parties (down_by exits way)
down_named exits parties route.Up = tt
down_named exits parties (route.Port other) = output_named parties (lane_to exits other)
down_named exits parties route.OwnEgress = tt
down_named exits parties route.Nobody = tt

course_named : (tree : Routes) (config : Config) (head : Head) (o : Option DownstreamPort) → NamesSender head.parties (course_at tree config head o)
course_named tree config head (Some line) = tested_named tree config line head (verdict_of line head.header)
course_named tree config head None = down_named config.exits head.parties (route_of tree.switches tree.ports config.id head.header)

names_sender : (tree : Routes) (config : Config) (head : Head) (v : Violation) → course_of tree config head ≡ Stop (Some v) → head.parties ≡ Upward v.sender
names_sender tree config head v e = subst (NamesSender head.parties) e (course_named tree config head config.line)

-- ---- and that is a function of its home

module _ (platform : Platform) (frame : Descriptor) (sender : ℕ) (from : frame.head.parties ≡ Upward sender) where
  asked_own : (function requester address : ℕ) (address_type : AddressType) → IsAsked platform frame.domain function requester address_type address frame.head.parties → IsFunctionOf platform frame.domain sender
  asked_own function requester address address_type (IsAsked.ByHost parties) = absurd cc
  asked_own function requester address address_type (IsAsked.Directly other own parties cleared goes) = let same : other ≡ sender = cc in subst (IsFunctionOf platform frame.domain) same own

  meant_own : (function : ℕ) (h : Header) → IsMeantFor platform frame.domain function frame.head.parties h → IsFunctionOf platform frame.domain sender
  meant_own function header.Malformed meant = absurd meant
  meant_own function (header.Memory requester address_type address) meant = asked_own function requester address address_type meant.0
  meant_own function (header.OtherRequest requester) meant = absurd meant
  meant_own function (header.Completion target relaxed_ordering) meant = let other = meant.1 in absurd cc

  own_by : (lower : ℕ) (way : Way) → IsSoundOn platform lower way frame → IsFunctionOf platform frame.domain sender
  own_by lower Up (inl r) = let parties = r.parties in let same : r.function ≡ sender = cc in subst (IsFunctionOf platform frame.domain) same r.own
  own_by lower Up (inr r) = let parties = r.parties in absurd cc
  own_by lower Down r = meant_own r.function frame.head.header r.meant

  pub sender_own : (direction : Direction) → IsSound platform direction frame → IsFunctionOf platform frame.domain sender
  sender_own direction sound = own_by direction.lower direction.way sound

module _ (w : World) (g : IsGuardedFabric w) (d : ℕ) where
  foreign_sender : (frame : Descriptor) (v : Violation) (place : Option ℕ) → (frame.domain == d) ≡ false → IsFunctionOf g.platform frame.domain v.sender → place_of_function w.agents.domains v.sender ≡ place → is_by w d v ≡ false
  foreign_sender frame v None other own e = ap (λ (o : Option ℕ). is_number d (number_of (domain_at w.agents.domains o))) e
  foreign_sender frame v (Some place) other own e =
      let home = function_home w g v.sender (Some place) e refl in
      let same : home.d.share.domain ≡ frame.domain = same_Some home.d.share.domain frame.domain (sym home.own.owner ∙ own.owner) in
      ap (λ (o : Option DomainView). is_number d (number_of o)) home.found ∙ (ap (λ (n : ℕ). n == d) same ∙ other)

  -- ---- at a port

  told_there : (kept : IsConsistent w) (class : Class) (direction : Direction) (input : Option LinkEnd) (config : Config) (t : Taken) (v : Violation) → sender_of w.tree.links direction ≡ input → taken_at w.channels class input ≡ Some t
      → is_number d (home_of_taken (taken_at w.channels class input)) ≡ false → course_of w.routes config t.frame.head ≡ Stop (Some v) → is_by w d v ≡ false
  told_there kept class direction input config t v from e foreign stops =
      let k = soundly_taken w kept g direction class input t from e in
      let other : (t.frame.domain == d) ≡ false = sym (ap (λ (o : Option Taken). is_number d (home_of_taken o)) e) ∙ foreign in
      foreign_sender t.frame v (place_of_function w.agents.domains v.sender) other (sender_own g.platform t.frame v.sender (names_sender w.routes config t.frame.head v stops) direction k.sound) refl

  told_standing : (kept : IsConsistent w) (class : Class) (place : PortPlace) (config : Config) (t : Taken) (v : Violation) → Standing g.platform place config → taken_at w.channels class place.input ≡ Some t → is_number d (home_of_taken (taken_at w.channels class place.input)) ≡ false
      → course_of w.routes config t.frame.head ≡ Stop (Some v) → is_by w d v ≡ false
  told_standing kept class place config t v (Standing.Upstream switch listed at configured) e foreign stops =
      let within = (found (λ (x : Switch). x.id == switch.id) g.platform.switches switch listed).0 in
      told_there kept class (record { lower = switch.id; way = Down }) place.input config t v
      (ap (λ (x : Tree). sender_of x.links (record { lower = switch.id; way = Down })) g.of_it.tree ∙ (sym (upstream_input g.platform g.guarded.laws switch within) ∙ ap (λ (x : PortPlace). x.input) (sym at))) e foreign stops
  told_standing kept class place config t v (Standing.Downstream line listed at configured) e foreign stops =
      told_there kept class (record { lower = id_below line; way = Up }) place.input config t v
      (ap (λ (x : Tree). sender_of x.links (record { lower = id_below line; way = Up })) g.of_it.tree ∙ (sym (downstream_input g.platform g.guarded.laws line) ∙ ap (λ (x : PortPlace). x.input) (sym at))) e foreign stops

-- ---- of an event

-- what it reports, if anything, isn't found by the test
abbrev pub TellsNone : (Violation → Bool) → World → Event → Type 0
TellsNone is_told w (Pass port class) = (i : ℕ) (t : Taken) (v : Violation) → index_of w.tree.places port ≡ Some i → taken_at w.channels class (get_or w.tree.places i no_place).input ≡ Some t → course_of w.routes (port_number w i).config t.frame.head ≡ Stop (Some v) → is_told v ≡ false
TellsNone is_told w event = ⊤

-- an event that is foreign to a domain reports nothing of it
pub tells_none : (w : World) → IsConsistent w → IsGuardedFabric w → (d : ℕ) (event : Event) → is_event_of w d event ≡ false → TellsNone (is_by w d) w event
tells_none w kept g d (Pass port class) foreign = λ i t v e there stops.
    let less = (position-Some (λ (place : PortPlace). place.id == port) w.tree.places i no_place e).0 in
    let many = kept.built.many in
    told_standing w g d kept class (get_or w.tree.places i no_place) (port_number w i).config t v (standing g.platform w port i g.of_it (omega (arith, less, many)) e) there
    (sym (ap (λ (o : Option ℕ). is_number d (option_and_then (home_passed w class) o)) e) ∙ foreign) stops
tells_none w kept g d (Submit function bytes) foreign = tt
tells_none w kept g d (Tick function) foreign = tt
tells_none w kept g d (Mmio domain access) foreign = tt
tells_none w kept g d (Enter origin class) foreign = tt
tells_none w kept g d (Send direction class) foreign = tt
tells_none w kept g d (Take direction) foreign = tt
tells_none w kept g d (Credit direction) foreign = tt
tells_none w kept g d (Root class) foreign = tt
tells_none w kept g d (Arrive function class) foreign = tt
