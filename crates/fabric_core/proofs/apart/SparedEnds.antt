-- A packet that a port, the host or a function of a guarded fabric takes leaves other domains alone.
use Rattle.std.proofs.Common.{◌≡◌, ℕ, Bool, true, false, cond, List, get_or, Option, Some, None, refl, sym, ap, ◌∙◌, subst}
use Rattle.std.specs.Prelude.{is_some, option_map}
use Rattle.std.specs.Option.{option_and_then}
use Rattle.std.proofs.lemmas.Option.{same_Some}
use Rattle.fab_types.specs.declared.origin.Origin.{Origin}
use Rattle.fab_types.specs.declared.origin.Origin.TheVariants as origin
use Rattle.fab_types.specs.declared.violation.Violation.{Violation}
use Rattle.frame_log.specs.Descriptor.{Descriptor}
use Rattle.domain.specs.declared.entry.Entry.{Entry}
use Rattle.domain.specs.declared.entry.Entry.TheVariants as entry
use Rattle.domains.specs.Agents.{AgentsView, emitted, emitted_if, is_function_of}
use Rattle.link.specs.Channels.{Channel, is_full}
use Rattle.port.specs.Courses.{course_of}
use Rattle.lane.specs.Lanes.{Class, eligible}
use Rattle.port.specs.declared.course.Forwarding.{Forwarding}
use Rattle.port.specs.declared.course.Forwarding.TheVariants.{To, Stop, NoCase}
use Rattle.domains.specs.Domains.{Made, made, place_of, place_of_function}
use Rattle.topology.specs.Links.{sender_of}
use Rattle.topology.specs.declared.nodes.LinkEnd.{LinkEnd}
use Rattle.interconnect.specs.Moves.{channel_at, put_at}
use Rattle.interconnect.specs.Passes.{index_of, no_place}
use Rattle.fabric_core.specs.Arrivals.{Taken, arrive, arrived, arrived_by, ended, received_at, agents_by_host, from_host, own_by_function, own_by_host, relayed, arrive_at_host, arrived_at_host, arrived_at_host_by, taken, taken_at, taken_from, to_function, to_host}
use Rattle.received.specs.declared.received.Received.{Received}
use Rattle.received.specs.Received.{received_at_host}
use Rattle.fabric_core.specs.Isolation.{home_of_taken, home_passed, is_number}
use Rattle.fabric_core.specs.Misrouting.{pass}
use Rattle.switch_output.specs.Vetted.{may_go_on}
use Rattle.fabric_core.specs.Passing.{Site, answer_waits, answered_at, is_full_at, output_end, passed, passed_by, passed_number, refused_by, site_at, strayed}
use Rattle.fabric_core.specs.Soundness.{IsGuardedFabric}
use Rattle.fabric_core.specs.World.{World, with_channels}
use Rattle.fabric_core.proofs.soundness.GuardedAliens.{home_at_function, home_at_host, passes_as_turned}
use Rattle.fabric_core.proofs.apart.Owning.{IsOther, links_left, links_put}
use Rattle.fabric_core.proofs.invariant.Settling.{MadeBy, is_home, made_from}
use Rattle.fabric_core.proofs.apart.Sparing.{AgentsSpares, LinksSpare, Spares, agents_emitted, agents_same, agents_silent, sent_other, spares}

-- ---- what is taken

taken_if : (channels : List (List Channel)) (class : Class) (end : LinkEnd) (o : Option (Descriptor × List Descriptor)) (t : Taken) → eligible class (channel_at channels end).ingress ≡ o → option_map (taken_from channels end) o ≡ Some t → LinksSpare channels (Some t.frame.domain) t.channels
taken_if channels class end None t e is = absurd cc
taken_if channels class end (Some r) t e is =
    subst (λ (x : Taken). LinksSpare channels (Some x.frame.domain) x.channels) (same_Some (taken_from channels end r) t is) (λ d other. links_left d channels end class r.1 r.0 e other)

-- a packet of the home leaves its direction
taken_spares : (channels : List (List Channel)) (class : Class) (found : Option LinkEnd) (t : Taken) → taken_at channels class found ≡ Some t → LinksSpare channels (Some t.frame.domain) t.channels
taken_spares channels class None t is = absurd cc
taken_spares channels class (Some end) t is = taken_if channels class end (eligible class (channel_at channels end).ingress) t refl is

-- and goes to another sender
put_spares : (old channels : List (List Channel)) (frame : Descriptor) (end : LinkEnd) → LinksSpare old (Some frame.domain) channels → LinksSpare old (Some frame.domain) (put_at channels end frame)
put_spares old channels frame end links = λ d other. links_put d channels end frame other ∙ links d other

-- ---- an entry of its home

module _ (agents : AgentsView) (frame : Descriptor) (act : Entry) (m : Made) (is : made agents.domains frame.domain act ≡ Some m) where
  by_home : MadeBy agents.domains act (place_of agents.domains frame.domain) m
  by_home = made_from agents.domains act (place_of agents.domains frame.domain) m is

  home_is : frame.domain ≡ by_home.d.share.domain
  home_is = is_home agents.domains frame.domain by_home.number by_home.d by_home.at by_home.at_number

  silent_spares : AgentsSpares agents (Some frame.domain) (record { domains = m.domains; outboxes = agents.outboxes })
  silent_spares = subst (λ (n : ℕ). AgentsSpares agents (Some n) (record { domains = m.domains; outboxes = agents.outboxes })) (sym home_is) (agents_silent agents act (place_of agents.domains frame.domain) m by_home)

  emitted_spares : (from : Origin) → AgentsSpares agents (Some frame.domain) (emitted agents from m)
  emitted_spares from = subst (λ (n : ℕ). AgentsSpares agents (Some n) (emitted agents from m)) (sym home_is) (agents_emitted agents act (place_of agents.domains frame.domain) m by_home from)

  answer_other : (d : ℕ) → IsOther d frame → (answer : Descriptor) → m.sent ≡ Some answer → IsOther d answer
  answer_other d other answer e = sent_other agents act (place_of agents.domains frame.domain) m by_home d (subst (λ (n : ℕ). is_number d (Some n) ≡ false) home_is other) answer e

-- what the agents become by an entry of the packet's home, if it has one
abbrev HomeSpares : AgentsView → Descriptor → Option AgentsView → Type 0
HomeSpares agents frame all = (new : AgentsView) → all ≡ Some new → AgentsSpares agents (Some frame.domain) new

emitted_if_spares : (agents : AgentsView) (frame : Descriptor) (act : Entry) (from : Origin) (o : Option Made) → made agents.domains frame.domain act ≡ o → HomeSpares agents frame (emitted_if agents from o)
emitted_if_spares agents frame act from None e new is = absurd cc
emitted_if_spares agents frame act from (Some m) e new is = subst (AgentsSpares agents (Some frame.domain)) (same_Some (emitted agents from m) new is) (emitted_spares agents frame act m e from)

delivered_spares : (agents : AgentsView) (frame : Descriptor) (o : Option Made) → made agents.domains frame.domain (entry.Deliver frame.number) ≡ o → HomeSpares agents frame (option_map (λ (m : Made). record { domains = m.domains; outboxes = agents.outboxes }) o)
delivered_spares agents frame None e new is = absurd cc
delivered_spares agents frame (Some m) e new is = subst (AgentsSpares agents (Some frame.domain)) (same_Some (record { domains = m.domains; outboxes = agents.outboxes }) new is) (silent_spares agents frame (entry.Deliver frame.number) m e)

host_spares : (agents : AgentsView) (frame : Descriptor) (received : Received) → HomeSpares agents frame (own_by_host agents frame received)
host_spares agents frame Received.Relayed new is = absurd cc
host_spares agents frame Received.Request new is = emitted_if_spares agents frame (entry.Carry frame.number) (origin.Host frame.domain) (made agents.domains frame.domain (entry.Carry frame.number)) refl new is
host_spares agents frame Received.Completion new is = delivered_spares agents frame (made agents.domains frame.domain (entry.Deliver frame.number)) refl new is
host_spares agents frame Received.Unknown new is = absurd cc

carried_spares : (agents : AgentsView) (function : ℕ) (frame : Descriptor) (b : Bool) → HomeSpares agents frame (emitted_if agents (origin.Function function) (cond b (made agents.domains frame.domain (entry.Carry frame.number)) None))
carried_spares agents function frame true new is = emitted_if_spares agents frame (entry.Carry frame.number) (origin.Function function) (made agents.domains frame.domain (entry.Carry frame.number)) refl new is
carried_spares agents function frame false new is = absurd cc

function_spares : (agents : AgentsView) (function : ℕ) (frame : Descriptor) (received : Received) → HomeSpares agents frame (own_by_function agents function frame received)
function_spares agents function frame Received.Relayed new is = absurd cc
function_spares agents function frame Received.Request new is = carried_spares agents function frame (is_function_of agents.domains function frame.domain) new is
function_spares agents function frame Received.Completion new is = delivered_spares agents frame (made agents.domains frame.domain (entry.Deliver frame.number)) refl new is
function_spares agents function frame Received.Unknown new is = absurd cc

-- ---- at the host and at functions

ended_spares : (w : World) (t : Taken) (o : Option AgentsView) → LinksSpare w.channels (Some t.frame.domain) t.channels → HomeSpares w.agents t.frame o → Spares w (Some t.frame.domain) (ended w t o)
ended_spares w t None links agents = spares w (ended w t None) (Some t.frame.domain) links (agents_same w.agents (Some t.frame.domain))
ended_spares w t (Some new) links agents = spares w (ended w t (Some new)) (Some t.frame.domain) links (agents new refl)

-- the packet went on, or nothing changed
forwarded_spares : (w w' : World) (t : Taken) (end : LinkEnd) (full : Bool) → LinksSpare w.channels (Some t.frame.domain) t.channels → cond full None (Some (with_channels w (put_at t.channels end t.frame))) ≡ Some w' → Spares w (Some t.frame.domain) w'
forwarded_spares w w' t end true links is = absurd cc
forwarded_spares w w' t end false links is =
    let new = with_channels w (put_at t.channels end t.frame) in
    subst (Spares w (Some t.frame.domain)) (same_Some new w' is) (spares w new (Some t.frame.domain) (put_spares w.channels t.channels t.frame end links) (agents_same w.agents (Some t.frame.domain)))

relayed_spares : (w w' : World) (class : Class) (t : Taken) (found : Option LinkEnd) → LinksSpare w.channels (Some t.frame.domain) t.channels → relayed w t class found ≡ Some w' → Spares w (Some t.frame.domain) w'
relayed_spares w w' class t None links is = absurd cc
relayed_spares w w' class t (Some end) links is = forwarded_spares w w' t end (is_full class (channel_at w.channels end)) links is

module _ (w w' : World) (g : IsGuardedFabric w) (t : Taken) (links : LinksSpare w.channels (Some t.frame.domain) t.channels) where
  at_host : (received : Received) → Some (ended w t (agents_by_host w.routes.ports w.agents t.frame received)) ≡ Some w' → Spares w (Some t.frame.domain) w'
  at_host received is =
      subst (Spares w (Some t.frame.domain)) (ap (ended w t) (sym (home_at_host w g t.frame received)) ∙ same_Some (ended w t (agents_by_host w.routes.ports w.agents t.frame received)) w' is)
      (ended_spares w t (own_by_host w.agents t.frame received) links (host_spares w.agents t.frame received))

  at_host_spares : (class : Class) (received : Received) → arrived_at_host_by w class t received ≡ Some w' → Spares w (Some t.frame.domain) w'
  at_host_spares class Received.Relayed is = relayed_spares w w' class t (sender_of w.tree.links from_host) links is
  at_host_spares class Received.Request is = at_host Received.Request is
  at_host_spares class Received.Completion is = at_host Received.Completion is
  at_host_spares class Received.Unknown is = at_host Received.Unknown is

  arrived_spares : (function : ℕ) (received : Received) → Some (arrived_by w function t received) ≡ Some w' → Spares w (Some t.frame.domain) w'
  arrived_spares function received is =
      subst (Spares w (Some t.frame.domain)) (ap (ended w t) (sym (home_at_function w g function t.frame received)) ∙ same_Some (arrived_by w function t received) w' is)
      (ended_spares w t (own_by_function w.agents function t.frame received) links (function_spares w.agents function t.frame received))

at_host_if : (w w' : World) (g : IsGuardedFabric w) (class : Class) (o : Option Taken) → ((t : Taken) → o ≡ Some t → LinksSpare w.channels (Some t.frame.domain) t.channels) → arrived_at_host w class o ≡ Some w' → Spares w (home_of_taken o) w'
at_host_if w w' g class None links is = absurd cc
at_host_if w w' g class (Some t) links is = at_host_spares w w' g t (links t refl) class (received_at_host t.frame) is

pub spares_at_host : (w w' : World) (g : IsGuardedFabric w) (class : Class) → arrive_at_host w class ≡ Some w' → Spares w (home_of_taken (taken w to_host class)) w'
spares_at_host w w' g class is = at_host_if w w' g class (taken w to_host class) (taken_spares w.channels class (sender_of w.tree.links to_host)) is

arrive_if : (w w' : World) (g : IsGuardedFabric w) (function : ℕ) (o : Option Taken) (b : Bool) → ((t : Taken) → o ≡ Some t → LinksSpare w.channels (Some t.frame.domain) t.channels) → cond b (arrived w function o) None ≡ Some w' → Spares w (home_of_taken o) w'
arrive_if w w' g function o false links is = absurd cc
arrive_if w w' g function None true links is = absurd cc
arrive_if w w' g function (Some t) true links is = arrived_spares w w' g t (links t refl) function (received_at w function t.frame) is

pub spares_arrive : (w w' : World) (g : IsGuardedFabric w) (function : ℕ) (class : Class) → arrive w function class ≡ Some w' → Spares w (home_of_taken (taken w (to_function function) class)) w'
spares_arrive w w' g function class is =
    arrive_if w w' g function (taken w (to_function function) class) (is_some (place_of_function w.agents.domains function)) (taken_spares w.channels class (sender_of w.tree.links (to_function function))) is

-- ---- at a port

-- the port keeps it, which leaves the agents as they were
strayed_spares : (w : World) (site : Site) (t : Taken) → LinksSpare w.channels (Some t.frame.domain) t.channels → Spares w (Some t.frame.domain) (strayed w site t)
strayed_spares w site t links = spares w (strayed w site t) (Some t.frame.domain) links (agents_same w.agents (Some t.frame.domain))

answered_spares : (old channels : List (List Channel)) (end : LinkEnd) (home : ℕ) (sent : Option Descriptor) → ((d : ℕ) → is_number d (Some home) ≡ false → (answer : Descriptor) → sent ≡ Some answer → IsOther d answer) → LinksSpare old (Some home) channels
    → LinksSpare old (Some home) (answered_at channels end sent)
answered_spares old channels end home None other links = links
answered_spares old channels end home (Some answer) other links = λ d foreign. links_put d channels end answer (other d foreign answer refl) ∙ links d foreign

refused_spares : (w : World) (site : Site) (report : Option Violation) (t : Taken) (o : Option Made) → LinksSpare w.channels (Some t.frame.domain) t.channels → made w.agents.domains t.frame.domain (entry.Refuse t.frame.number) ≡ o
    → Spares w (Some t.frame.domain) (refused_by w site report t o)
refused_spares w site report t None links e = strayed_spares w site t links
refused_spares w site report t (Some m) links e =
    spares w (refused_by w site report t (Some m)) (Some t.frame.domain)
    (answered_spares w.channels t.channels (output_end site site.config.own) t.frame.domain m.sent (answer_other w.agents t.frame (entry.Refuse t.frame.number) m e) links)
    (silent_spares w.agents t.frame (entry.Refuse t.frame.number) m e)

module _ (w w' : World) (site : Site) (class : Class) (t : Taken) (links : LinksSpare w.channels (Some t.frame.domain) t.channels) where
  forward_spares : (output : ℕ) (full may : Bool) → cond full None (cond may (Some (with_channels w (put_at t.channels (output_end site output) t.frame))) (Some (strayed w site t))) ≡ Some w' → Spares w (Some t.frame.domain) w'
  forward_spares output full true is = forwarded_spares w w' t (output_end site output) full links is
  forward_spares output true false is = absurd cc
  forward_spares output false false is = subst (Spares w (Some t.frame.domain)) (same_Some (strayed w site t) w' is) (strayed_spares w site t links)

  stopped_spares : (report : Option Violation) (waits : Bool) → cond waits None (Some (refused_by w site report t (made w.agents.domains t.frame.domain (entry.Refuse t.frame.number)))) ≡ Some w' → Spares w (Some t.frame.domain) w'
  stopped_spares report true is = absurd cc
  stopped_spares report false is = subst (Spares w (Some t.frame.domain)) (same_Some _ w' is) (refused_spares w site report t (made w.agents.domains t.frame.domain (entry.Refuse t.frame.number)) links refl)

  course_spares : (course : Forwarding) → passed_by w site class t course ≡ Some w' → Spares w (Some t.frame.domain) w'
  course_spares (To output) is = forward_spares output (is_full_at w site output class) (may_go_on w.routes.ports t.frame) is
  course_spares (Stop report) is = stopped_spares report (answer_waits w site class) is
  course_spares NoCase is = subst (Spares w (Some t.frame.domain)) (same_Some (strayed w site t) w' is) (strayed_spares w site t links)

passed_spares : (w w' : World) (site : Site) (class : Class) (o : Option Taken) → ((t : Taken) → o ≡ Some t → LinksSpare w.channels (Some t.frame.domain) t.channels) → option_and_then (passed w site class) o ≡ Some w' → Spares w (home_of_taken o) w'
passed_spares w w' site class None links is = absurd cc
passed_spares w w' site class (Some t) links is = course_spares w w' site class t (links t refl) (course_of w.routes site.config t.frame.head) is

turn_spares : (w w' : World) (class : Class) (o : Option ℕ) → passed_number w class o ≡ Some w' → Spares w (option_and_then (home_passed w class) o) w'
turn_spares w w' class None is = absurd cc
turn_spares w w' class (Some i) is =
    let place = get_or w.tree.places i no_place in
    passed_spares w w' (site_at w i place) class (taken_at w.channels class place.input) (taken_spares w.channels class place.input) is

pub spares_pass : (w w' : World) (g : IsGuardedFabric w) (port : ℕ) (class : Class) → pass w port class ≡ Some w' → Spares w (option_and_then (home_passed w class) (index_of w.tree.places port)) w'
spares_pass w w' g port class is = turn_spares w w' class (index_of w.tree.places port) (sym (passes_as_turned w g port class) ∙ is)
