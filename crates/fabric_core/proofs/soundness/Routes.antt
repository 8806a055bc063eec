-- No event changes the switches and ports, nor the controls that are set on them.
use Rattle.std.proofs.Common.{◌≡◌, ℕ, Bool, true, false, cond, Option, Some, None, refl, subst}
use Rattle.std.specs.Prelude.{◌&&◌, IfSome, get_or, is_some, option_map}
use Rattle.std.specs.Option.{option_and_then}
use Rattle.fab_types.specs.declared.class.Class.{Class}
use Rattle.fab_types.specs.declared.class.Class.TheVariants.{Completion}
use Rattle.fab_types.specs.declared.origin.Origin.{Origin}
use Rattle.fab_types.specs.declared.violation.Violation.{Violation}
use Rattle.domain.specs.declared.entry.Entry.TheVariants.{Refuse}
use Rattle.domains.specs.Agents.{AgentsView, accessed, submitted, ticked, waiting_of}
use Rattle.link.specs.Channels.{is_full, deliver, send, update_fc}
use Rattle.port.specs.Courses.{course_of}
use Rattle.lane.specs.Lanes.{eligible}
use Rattle.port.specs.declared.course.Forwarding.{Forwarding}
use Rattle.port.specs.declared.course.Forwarding.TheVariants.{To, Stop, NoCase}
use Rattle.domains.specs.Aliens.{answers}
use Rattle.domains.specs.Domains.{Made, made, place_of_function}
use Rattle.topology.specs.Links.{sender_of}
use Rattle.topology.specs.declared.nodes.LinkEnd.{LinkEnd}
use Rattle.interconnect.specs.Moves.{channel_at, on_channel}
use Rattle.interconnect.specs.Passes.{index_of, no_place}
use Rattle.fabric_core.specs.declared.event.Event.{Event}
use Rattle.fabric_core.specs.declared.event.Event.TheVariants.{Arrive, Credit, Enter, Mmio, Pass, Root, Send, Submit, Take, Tick}
use Rattle.fabric_core.specs.Arrivals.{Taken, arrived, arrived_by, agents_by_function, agents_by_host, ended, received_at, from_host, relayed, arrived_at_host, arrived_at_host_by, taken, taken_at, to_function, to_host}
use Rattle.received.specs.declared.received.Received.{Received}
use Rattle.received.specs.Received.{received_at_host}
use Rattle.fabric_core.specs.Events.{effect, entered_at, link_of}
use Rattle.fabric_core.specs.Misrouting.{Misrouting, misrouting, passed_unless}
use Rattle.switch_output.specs.Vetted.{may_go_on}
use Rattle.fabric_core.specs.Passing.{Site, answer_waits, is_full_at, passed, passed_by, passed_number, refused_by, site_at}
use Rattle.fabric_core.specs.World.{World, with_channels, with_agents}

-- the world after it, if there is one, has the same switches and ports
abbrev Keeps : World → Option World → Type 0
Keeps w all = IfSome all (λ v. v.routes ≡ w.routes)

mapped : {X : Type 0} (w : World) (f : X → World) (o : Option X) → ((x : X) → (f x).routes ≡ w.routes) → Keeps w (option_map f o)
mapped w f None same = tt
mapped w f (Some x) same = same x

chained : {X : Type 0} (w : World) (f : X → Option World) (o : Option X) → ((x : X) → Keeps w (f x)) → Keeps w (option_and_then f o)
chained w f None keeps = tt
chained w f (Some x) keeps = keeps x

unless : (w v : World) (b : Bool) → v.routes ≡ w.routes → Keeps w (cond b None (Some v))
unless w v true same = tt
unless w v false same = same

entered : (w : World) (origin : Origin) (class : Class) (o : Option LinkEnd) (taken : _) → Keeps w (entered_at w origin class o taken)
entered w origin class None taken = tt
entered w origin class (Some end) taken = unless w _ (is_full class (channel_at w.channels end)) refl

-- ---- at the host and at functions

left : (w : World) (t : Taken) (o : Option AgentsView) → (ended w t o).routes ≡ w.routes
left w t None = refl
left w t (Some agents) = refl

sent_down : (w : World) (t : Taken) (class : Class) (o : Option LinkEnd) → Keeps w (relayed w t class o)
sent_down w t class None = tt
sent_down w t class (Some end) = unless w _ (is_full class (channel_at w.channels end)) refl

at_host : (w : World) (class : Class) (t : Taken) (received : Received) → Keeps w (arrived_at_host_by w class t received)
at_host w class t Received.Relayed = sent_down w t class (sender_of w.tree.links from_host)
at_host w class t Received.Request = left w t (agents_by_host w.routes.ports w.agents t.frame Received.Request)
at_host w class t Received.Completion = left w t (agents_by_host w.routes.ports w.agents t.frame Received.Completion)
at_host w class t Received.Unknown = left w t (agents_by_host w.routes.ports w.agents t.frame Received.Unknown)

at_host_keeps : (w : World) (class : Class) (o : Option Taken) → Keeps w (arrived_at_host w class o)
at_host_keeps w class None = tt
at_host_keeps w class (Some t) = at_host w class t (received_at_host t.frame)

arrived_keeps : (w : World) (function : ℕ) (b : Bool) (o : Option Taken) → Keeps w (cond b (arrived w function o) None)
arrived_keeps w function true o =
    mapped w (λ (t : Taken). arrived_by w function t (received_at w function t.frame)) o (λ t. left w t (agents_by_function w.agents function t.frame (received_at w function t.frame)))
arrived_keeps w function false o = tt

-- ---- at a port

either : (w u v : World) (a b : Bool) → u.routes ≡ w.routes → v.routes ≡ w.routes → Keeps w (cond a None (cond b (Some u) (Some v)))
either w u v true b first second = tt
either w u v false true first second = first
either w u v false false first second = second

refused : (w : World) (site : Site) (report : Option Violation) (t : Taken) (o : Option Made) → (refused_by w site report t o).routes ≡ w.routes
refused w site report t None = refl
refused w site report t (Some m) = refl

by_course : (w : World) (site : Site) (class : Class) (t : Taken) (course : Forwarding) → Keeps w (passed_by w site class t course)
by_course w site class t (To output) = either w _ _ (is_full_at w site output class) (may_go_on w.routes.ports t.frame) refl refl
by_course w site class t (Stop report) = unless w _ (answer_waits w site class) (refused w site report t (made w.agents.domains t.frame.domain (Refuse t.frame.number)))
by_course w site class t NoCase = refl

turned_keeps : (w : World) (class : Class) (o : Option ℕ) → Keeps w (passed_number w class o)
turned_keeps w class None = tt
turned_keeps w class (Some i) =
    let place = get_or w.tree.places i no_place in
    let site = site_at w i place in
    chained w (passed w site class) (taken_at w.channels class place.input) (λ t. by_course w site class t (course_of w.routes site.config t.frame.head))

passed_keeps : (w : World) (port : ℕ) (class : Class) (o : Option Misrouting) → Keeps w (passed_unless w port class o)
passed_keeps w port class None = turned_keeps w class (index_of w.tree.places port)
passed_keeps w port class (Some l) = unless w _ (answers (Some l.made) && is_full Completion (channel_at w.channels l.misrouted.own)) refl

-- ---- each event

effect_keeps : (w : World) (event : Event) → Keeps w (effect w event)
effect_keeps w (Submit function bytes) = mapped w (with_agents w) (submitted w.agents function bytes) (λ agents. refl)
effect_keeps w (Tick function) = mapped w (with_agents w) (ticked w.agents function) (λ agents. refl)
effect_keeps w (Mmio domain access) = mapped w (with_agents w) (accessed w.agents domain access) (λ agents. refl)
effect_keeps w (Enter origin class) =
    let end = sender_of w.tree.links (link_of origin) in
    chained w (entered_at w origin class end) (eligible class (waiting_of w.agents.outboxes origin)) (entered w origin class end)
effect_keeps w (Pass port class) = passed_keeps w port class (misrouting w port class)
effect_keeps w (Send direction class) = mapped w (with_channels w) (on_channel w.channels (sender_of w.tree.links direction) (send class)) (λ channels. refl)
effect_keeps w (Take direction) = mapped w (with_channels w) (on_channel w.channels (sender_of w.tree.links direction) deliver) (λ channels. refl)
effect_keeps w (Credit direction) = mapped w (with_channels w) (on_channel w.channels (sender_of w.tree.links direction) update_fc) (λ channels. refl)
effect_keeps w (Root class) = at_host_keeps w class (taken w to_host class)
effect_keeps w (Arrive function class) = arrived_keeps w function (is_some (place_of_function w.agents.domains function)) (taken w (to_function function) class)

pub routes_stay : (w v : World) (event : Event) → effect w event ≡ Some v → v.routes ≡ w.routes
routes_stay w v event is = subst (Keeps w) is (effect_keeps w event)
