-- Every event leaves all directions bounded.
use Rattle.std.proofs.Common.{◌≡◌, ℕ, Bool, true, false, cond, List, Option, Some, None, refl, subst}
use Rattle.std.specs.Prelude.{◌&&◌, is_some, option_map, slice_index_or}
use Rattle.std.specs.Option.{option_and_then}
use Rattle.fab_types.specs.declared.class.Class.{Class}
use Rattle.fab_types.specs.declared.class.Class.TheVariants.{Completion}
use Rattle.fab_types.specs.declared.origin.Origin.{Origin}
use Rattle.fab_types.specs.declared.violation.Violation.{Violation}
use Rattle.frame_log.specs.Descriptor.{Descriptor}
use Rattle.domains.specs.Agents.{AgentsView, accessed, submitted, taken_from, ticked, waiting_of}
use Rattle.domain.specs.declared.entry.Entry.TheVariants.{Refuse}
use Rattle.domains.specs.Aliens.{aliened, answers}
use Rattle.domains.specs.Domains.{Made, made, place_of_function}
use Rattle.lane.specs.Lanes.{eligible}
use Rattle.link.specs.Channels.{Channel, IsBounded, deliver, is_full, send, update_fc}
use Rattle.port.specs.Courses.{course_of}
use Rattle.port.specs.declared.course.Forwarding.{Forwarding}
use Rattle.port.specs.declared.course.Forwarding.TheVariants.{To, Stop, NoCase}
use Rattle.topology.specs.Links.{sender_of}
use Rattle.topology.specs.declared.nodes.LinkEnd.{LinkEnd}
use Rattle.topology.specs.declared.places.PortPlace.{PortPlace}
use Rattle.interconnect.specs.declared.misrouted.Misrouted.{Misrouted}
use Rattle.interconnect.specs.Misrouted.{misrouted_among}
use Rattle.interconnect.specs.Moves.{channel_at, on_channel, put_at}
use Rattle.interconnect.specs.Passes.{index_of, no_place}
use Rattle.switch_output.specs.Vetted.{may_go_on}
use Rattle.fabric_core.specs.declared.event.Event.{Event}
use Rattle.fabric_core.specs.declared.event.Event.TheVariants.{Arrive, Credit, Enter, Mmio, Pass, Root, Send, Submit, Take, Tick}
use Rattle.fabric_core.specs.Credits.{AreBounded, HaveCredits}
use Rattle.fabric_core.specs.Events.{effect, entered_at, link_of}
use Rattle.fabric_core.specs.Misrouting.{Misrouting, is_at_port_of, misrouting, misrouting_by, misrouting_to, misrouting_with, misrouted, passed_unless, without_misrouted}
use Rattle.fabric_core.specs.Passing.{Site, answer_waits, answered_at, is_full_at, output_end, passed, passed_by, passed_number, refused_by, site_at, strayed}
use Rattle.fabric_core.specs.Arrivals.{Taken, agents_by_host, arrived, arrived_by, ended, from_host, received_at, relayed, arrived_at_host, arrived_at_host_by, taken, taken_at, to_function, to_host}
use Rattle.received.specs.declared.received.Received.{Received}
use Rattle.received.specs.Received.{received_at_host}
use Rattle.fabric_core.specs.World.{World, with_agents, with_both, with_channels}
use Rattle.fabric_core.proofs.bounded.Directions.{on_channel_bounded, put_bounded, some_is, taken_bounded}
use Rattle.fabric_core.proofs.bounded.Steps.{deliver_bounded, send_bounded, update_bounded}

abbrev some : {A : Type 0} → A → Option A
some x = Some x

-- all directions of this world are bounded
abbrev Holds : World → Type 0
Holds w = AreBounded w.channels

-- ---- events that take nothing from a link

agents_alone : (w w' : World) (o : Option AgentsView) → Holds w → option_map (with_agents w) o ≡ Some w' → Holds w'
agents_alone w w' None all is = absurd cc
agents_alone w w' (Some agents) all is = subst Holds (some_is (with_agents w agents) w' is) all

moved : (w w' : World) (o : Option (List (List Channel))) → ((channels : List (List Channel)) → o ≡ Some channels → AreBounded channels) → option_map (with_channels w) o ≡ Some w' → Holds w'
moved w w' None step is = absurd cc
moved w w' (Some channels) step is = subst Holds (some_is (with_channels w channels) w' is) (step channels refl)

stepped : (w w' : World) (found : Option LinkEnd) (step : Channel → Option Channel) → Holds w → ((c c' : Channel) → IsBounded c → step c ≡ Some c' → IsBounded c')
    → option_map (with_channels w) (on_channel w.channels found step) ≡ Some w' → Holds w'
stepped w w' found step all keeps is =
    moved w w' (on_channel w.channels found step) (λ channels e. on_channel_bounded w.channels channels found step all keeps e) is

entered : (w w' : World) (origin : Origin) (end : LinkEnd) (t : Descriptor × List Descriptor) (full : Bool) → Holds w
    → cond full None (some (with_both w (put_at w.channels end t.0) (taken_from w.agents origin t.1))) ≡ Some w' → Holds w'
entered w w' origin end t true all is = absurd cc
entered w w' origin end t false all is = subst Holds (some_is (with_both w (put_at w.channels end t.0) (taken_from w.agents origin t.1)) w' is) (put_bounded w.channels end t.0 all)

entered_from : (w w' : World) (origin : Origin) (class : Class) (found : Option LinkEnd) (o : Option (Descriptor × List Descriptor)) → Holds w → option_and_then (entered_at w origin class found) o ≡ Some w' → Holds w'
entered_from w w' origin class found None all is = absurd cc
entered_from w w' origin class None (Some t) all is = absurd cc
entered_from w w' origin class (Some end) (Some t) all is = entered w w' origin end t (is_full class (channel_at w.channels end)) all is

-- ---- at the host and at a function

put : (w w' : World) (t : Taken) (end : LinkEnd) (full : Bool) → AreBounded t.channels → cond full None (some (with_channels w (put_at t.channels end t.frame))) ≡ Some w' → Holds w'
put w w' t end true all is = absurd cc
put w w' t end false all is = subst Holds (some_is (with_channels w (put_at t.channels end t.frame)) w' is) (put_bounded t.channels end t.frame all)

relayed_to : (w w' : World) (t : Taken) (class : Class) (found : Option LinkEnd) → AreBounded t.channels → relayed w t class found ≡ Some w' → Holds w'
relayed_to w w' t class None all is = absurd cc
relayed_to w w' t class (Some end) all is = put w w' t end (is_full class (channel_at w.channels end)) all is

ended_bounded : (w : World) (t : Taken) (o : Option AgentsView) → AreBounded t.channels → Holds (ended w t o)
ended_bounded w t None all = all
ended_bounded w t (Some agents) all = all

at_host_by : (w w' : World) (class : Class) (t : Taken) (received : Received) → AreBounded t.channels → arrived_at_host_by w class t received ≡ Some w' → Holds w'
at_host_by w w' class t Received.Relayed all is = relayed_to w w' t class (sender_of w.tree.links from_host) all is
at_host_by w w' class t Received.Request all is =
    let agents = agents_by_host w.routes.ports w.agents t.frame Received.Request in subst Holds (some_is (ended w t agents) w' is) (ended_bounded w t agents all)
at_host_by w w' class t Received.Completion all is =
    let agents = agents_by_host w.routes.ports w.agents t.frame Received.Completion in subst Holds (some_is (ended w t agents) w' is) (ended_bounded w t agents all)
at_host_by w w' class t Received.Unknown all is =
    let agents = agents_by_host w.routes.ports w.agents t.frame Received.Unknown in subst Holds (some_is (ended w t agents) w' is) (ended_bounded w t agents all)

at_host_if : (w w' : World) (class : Class) (o : Option Taken) → ((t : Taken) → o ≡ Some t → AreBounded t.channels) → arrived_at_host w class o ≡ Some w' → Holds w'
at_host_if w w' class None all is = absurd cc
at_host_if w w' class (Some t) all is = at_host_by w w' class t (received_at_host t.frame) (all t refl) is

arrived_if : (w w' : World) (function : ℕ) (o : Option Taken) → ((t : Taken) → o ≡ Some t → AreBounded t.channels) → arrived w function o ≡ Some w' → Holds w'
arrived_if w w' function None all is = absurd cc
arrived_if w w' function (Some t) all is =
    let after = arrived_by w function t (received_at w function t.frame) in
    subst Holds (some_is after w' is) (ended_bounded w t _ (all t refl))

arrived_at : (w w' : World) (function : ℕ) (class : Class) (known : Bool) → Holds w → cond known (arrived w function (taken w (to_function function) class)) None ≡ Some w' → Holds w'
arrived_at w w' function class false all is = absurd cc
arrived_at w w' function class true all is =
    arrived_if w w' function (taken w (to_function function) class) (λ t e. taken_bounded w.channels class (sender_of w.tree.links (to_function function)) t all e) is

-- ---- at a port

answered_bounded : (channels : List (List Channel)) (end : LinkEnd) (o : Option Descriptor) → AreBounded channels → AreBounded (answered_at channels end o)
answered_bounded channels end None all = all
answered_bounded channels end (Some answer) all = put_bounded channels end answer all

refused_bounded : (w : World) (site : Site) (report : Option Violation) (t : Taken) (o : Option Made) → AreBounded t.channels → Holds (refused_by w site report t o)
refused_bounded w site report t None all = all
refused_bounded w site report t (Some m) all = answered_bounded t.channels (output_end site site.config.own) m.sent all

gone_on : (w w' : World) (site : Site) (output : ℕ) (t : Taken) (full may_go : Bool) → AreBounded t.channels
    → cond full None (cond may_go (some (with_channels w (put_at t.channels (output_end site output) t.frame))) (some (strayed w site t))) ≡ Some w' → Holds w'
gone_on w w' site output t true may_go all is = absurd cc
gone_on w w' site output t false true all is = put w w' t (output_end site output) false all is
gone_on w w' site output t false false all is = subst Holds (some_is (strayed w site t) w' is) all

stopped_by : (w w' : World) (site : Site) (report : Option Violation) (t : Taken) (o : Option Made) (waits : Bool) → AreBounded t.channels → cond waits None (some (refused_by w site report t o)) ≡ Some w' → Holds w'
stopped_by w w' site report t o true all is = absurd cc
stopped_by w w' site report t o false all is = subst Holds (some_is (refused_by w site report t o) w' is) (refused_bounded w site report t o all)

passed_bounded : (w w' : World) (site : Site) (class : Class) (t : Taken) (course : Forwarding) → AreBounded t.channels → passed_by w site class t course ≡ Some w' → Holds w'
passed_bounded w w' site class t (To output) all is = gone_on w w' site output t (is_full_at w site output class) (may_go_on w.routes.ports t.frame) all is
passed_bounded w w' site class t (Stop report) all is = stopped_by w w' site report t (made w.agents.domains t.frame.domain (Refuse t.frame.number)) (answer_waits w site class) all is
passed_bounded w w' site class t NoCase all is = subst Holds (some_is (strayed w site t) w' is) all

passed_if : (w w' : World) (site : Site) (class : Class) (o : Option Taken) → ((t : Taken) → o ≡ Some t → AreBounded t.channels) → option_and_then (passed w site class) o ≡ Some w' → Holds w'
passed_if w w' site class None all is = absurd cc
passed_if w w' site class (Some t) all is = passed_bounded w w' site class t (course_of w.routes site.config t.frame.head) (all t refl) is

turned_if : (w w' : World) (class : Class) (o : Option ℕ) → Holds w → passed_number w class o ≡ Some w' → Holds w'
turned_if w w' class None all is = absurd cc
turned_if w w' class (Some i) all is =
    let place : PortPlace = slice_index_or w.tree.places i no_place in
    passed_if w w' (site_at w i place) class (taken_at w.channels class place.input) (λ t e. taken_bounded w.channels class place.input t all e) is

-- what a port misroutes was taken

misrouted_with : (l : Misrouting) (misrouted : Misrouted) (t : Taken) (o : Option Made) → AreBounded t.channels → misrouting_with misrouted t o ≡ Some l → AreBounded l.taken.channels
misrouted_with l misrouted t None all is = absurd cc
misrouted_with l misrouted t (Some m) all is = subst (λ (x : Misrouting). AreBounded x.taken.channels) (some_is (record { misrouted = misrouted; taken = t; made = m }) l is) all

misrouted_to : (w : World) (l : Misrouting) (misrouted : Misrouted) (t : Taken) (at_port : Bool) → AreBounded t.channels → cond at_port (misrouting_with misrouted t (aliened w.agents.domains t.frame.domain misrouted.place t.frame)) None ≡ Some l → AreBounded l.taken.channels
misrouted_to w l misrouted t true all is = misrouted_with l misrouted t (aliened w.agents.domains t.frame.domain misrouted.place t.frame) all is
misrouted_to w l misrouted t false all is = absurd cc

misrouted_if : (w : World) (l : Misrouting) (misrouted : Misrouted) (o : Option Taken) → ((t : Taken) → o ≡ Some t → AreBounded t.channels) → option_and_then (misrouting_to w misrouted) o ≡ Some l → AreBounded l.taken.channels
misrouted_if w l misrouted None all is = absurd cc
misrouted_if w l misrouted (Some t) all is = misrouted_to w l misrouted t (is_at_port_of w.agents.domains t.frame.domain misrouted.place) (all t refl) is

misrouting_bounded : (w : World) (l : Misrouting) (class : Class) (o : Option Misrouted) → Holds w → misrouting_by w class o ≡ Some l → AreBounded l.taken.channels
misrouting_bounded w l class None all is = absurd cc
misrouting_bounded w l class (Some misrouted) all is =
    misrouted_if w l misrouted (taken_at w.channels class (Some misrouted.input)) (λ t e. taken_bounded w.channels class (Some misrouted.input) t all e) is

misrouted_bounded : (w w' : World) (l : Misrouting) (waits : Bool) → AreBounded l.taken.channels → cond waits None (some (without_misrouted w l)) ≡ Some w' → Holds w'
misrouted_bounded w w' l true all is = absurd cc
misrouted_bounded w w' l false all is = subst Holds (some_is (without_misrouted w l) w' is) (answered_bounded l.taken.channels l.misrouted.own l.made.sent all)

pass_if : (w w' : World) (port : ℕ) (class : Class) (o : Option Misrouting) → Holds w → ((l : Misrouting) → o ≡ Some l → AreBounded l.taken.channels) → passed_unless w port class o ≡ Some w' → Holds w'
pass_if w w' port class None all misroutes is = turned_if w w' class (index_of w.tree.places port) all is
pass_if w w' port class (Some l) all misroutes is = misrouted_bounded w w' l (answers (some l.made) && is_full Completion (channel_at w.channels l.misrouted.own)) (misroutes l refl) is

-- ---- each event

pub bounded_after : (w w' : World) (event : Event) → AreBounded w.channels → effect w event ≡ Some w' → AreBounded w'.channels
bounded_after w w' (Submit function bytes) all is = agents_alone w w' (submitted w.agents function bytes) all is
bounded_after w w' (Tick function) all is = agents_alone w w' (ticked w.agents function) all is
bounded_after w w' (Mmio domain access) all is = agents_alone w w' (accessed w.agents domain access) all is
bounded_after w w' (Enter origin class) all is =
    entered_from w w' origin class (sender_of w.tree.links (link_of origin)) (eligible class (waiting_of w.agents.outboxes origin)) all is
bounded_after w w' (Pass port class) all is =
    pass_if w w' port class (misrouting w port class) all (λ l e. misrouting_bounded w l class (misrouted_among w.tree w.routes w.channels w.ports port class) all e) is
bounded_after w w' (Send direction class) all is = stepped w w' (sender_of w.tree.links direction) (send class) all (send_bounded class) is
bounded_after w w' (Take direction) all is = stepped w w' (sender_of w.tree.links direction) deliver all deliver_bounded is
bounded_after w w' (Credit direction) all is = stepped w w' (sender_of w.tree.links direction) update_fc all update_bounded is
bounded_after w w' (Root class) all is = at_host_if w w' class (taken w to_host class) (λ t e. taken_bounded w.channels class (sender_of w.tree.links to_host) t all e) is
bounded_after w w' (Arrive function class) all is = arrived_at w w' function class (is_some (place_of_function w.agents.domains function)) all is

-- ---- so no receive queue is overrun

found_bounded : (w : World) (o : Option LinkEnd) (c : Channel) → Holds w → option_map (channel_at w.channels) o ≡ Some c → IsBounded c
found_bounded w None c all is = absurd cc
found_bounded w (Some end) c all is = subst IsBounded (some_is (channel_at w.channels end) c is) (all end)

pub have_credits : (w : World) → AreBounded w.channels → HaveCredits w
have_credits w all = λ direction c is. found_bounded w (sender_of w.tree.links direction) c all is
