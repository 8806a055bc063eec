-- The begins that events leave in the journals of a fabric's domains.
use Rattle.std.proofs.Common.{◌≡◌, ◌≢◌, ℕ, zero, suc, ◌<◌, Bool, true, false, cond, eqb, List, [], ◌∷◌, ◌++◌, length, map, get_or, set, Option, Some, None, refl, sym, ap, ◌∙◌, subst, arith}
use Rattle.std.specs.Prelude.{◌==◌, ◌&&◌, slice_get}
use Rattle.std.specs.List.{position}
use Rattle.std.specs.Option.{is_some, option_and_then, option_map}
use Rattle.std.proofs.lemmas.Bool.{eq-eqb, eqb-true}
use Rattle.std.proofs.lemmas.List.{append-nil, append_assoc, get_or-set_other, get_or-set_same, length-map, map-set, set-get_or}
use Rattle.domains.proofs.Lists.{position_map}
use Rattle.fab_types.specs.declared.class.Class.{Class}
use Rattle.fab_types.specs.declared.class.Class.TheVariants.{Completion}
use Rattle.fab_types.specs.declared.outcome.Outcome.{Outcome}
use Rattle.fab_types.specs.declared.outcome.Outcome.TheVariants.{Moved, Idle, Refused, NoMemory}
use Rattle.fab_types.specs.declared.head.Parties.{Parties}
use Rattle.fab_types.specs.declared.origin.Origin.{Origin}
use Rattle.fab_types.specs.declared.place.Place.{Place}
use Rattle.fab_types.specs.declared.place.Place.TheVariants.{Ingress}
use Rattle.fab_types.specs.declared.violation.Violation.{Violation}
use Rattle.frame_log.specs.Descriptor.{Descriptor}
use Rattle.platform.specs.Owners.{is_own_function}
use Rattle.platform.specs.Share.{Share}
use Rattle.domain.specs.declared.entry.Entry.{Entry}
use Rattle.domain.specs.declared.entry.Entry.TheVariants as entry
use Rattle.domain.specs.Domains.{DomainView}
use Rattle.domain.specs.Machine.{change}
use Rattle.request_handling.specs.Emissions.{Emission}
use Rattle.domain_state.specs.State.{Change}
use Rattle.link.specs.Channels.{Channel, is_full, deliver, send, update_fc}
use Rattle.port.specs.declared.course.Forwarding.{Forwarding}
use Rattle.port.specs.declared.course.Forwarding.TheVariants.{To, Stop, NoCase}
use Rattle.port.specs.Courses.{course_of}
use Rattle.lane.specs.Lanes.{eligible}
use Rattle.domains.specs.Aliens.{aliened, aliened_at, aliened_by, answers, flown, owner_of_frame}
use Rattle.domains.specs.Domains.{Made, after, made, made_at, made_by, made_of, place_of, place_of_function}
use Rattle.topology.specs.Links.{sender_of}
use Rattle.topology.specs.declared.nodes.LinkEnd.{LinkEnd}
use Rattle.interconnect.specs.declared.misrouted.Misrouted.{Misrouted}
use Rattle.interconnect.specs.Misrouted.{misrouted_among}
use Rattle.interconnect.specs.Moves.{channel_at, on_channel}
use Rattle.interconnect.specs.Passes.{index_of, no_place}
use Rattle.domains.specs.Agents.{AgentsView, delivered, emitted, emitted_if, is_function_of, waiting_of}
use Rattle.fabric_core.specs.declared.event.Event.{Event}
use Rattle.fabric_core.specs.declared.event.Event.TheVariants.{Submit, Tick, Mmio, Enter, Pass, Send, Take, Credit, Root, Arrive}
use Rattle.fabric_core.specs.Aliens.{alien_at_function, alien_at_host, or_else}
use Rattle.received.specs.Receivers.{receiver_at_host}
use Rattle.fabric_core.specs.Arrivals.{Taken, arrived, arrived_by, agents_by_function, agents_by_host, ended, received_at, from_host, own_by_function, own_by_host, relayed, arrived_at_host, arrived_at_host_by, taken, taken_at, to_function, to_host}
use Rattle.received.specs.declared.received.Received.{Received}
use Rattle.received.specs.Received.{received_at_host}
use Rattle.fabric_core.specs.Events.{StepsTo, effect, entered_at, link_of}
use Rattle.fabric_core.specs.Misrouting.{Misrouting, is_at_port_of, misrouting, misrouting_by, misrouting_to, misrouting_with, passed_unless, without_misrouted}
use Rattle.fabric_core.specs.Passing.{Site, answer_waits, passed, passed_by, passed_number, refused_by, site_at}
use Rattle.fabric_core.specs.Runs.{Grow, HaveBegun, Run, accepted, accepted_one, begins_of, begun_at, is_home, share_of}
use Rattle.fabric_core.specs.World.{World, with_channels, with_agents}

-- ---- begins in a journal

begins_of-append : (js ks : List Entry) → begins_of (js ++ ks) ≡ begins_of js ++ begins_of ks
begins_of-append [] ks = refl
begins_of-append (entry.Submit f b ∷ js) ks = ap (λ (bs : List Entry). entry.Submit f b ∷ bs) (begins_of-append js ks)
begins_of-append (entry.Tick f ∷ js) ks = ap (λ (bs : List Entry). entry.Tick f ∷ bs) (begins_of-append js ks)
begins_of-append (entry.Mmio access ∷ js) ks = ap (λ (bs : List Entry). entry.Mmio access ∷ bs) (begins_of-append js ks)
begins_of-append (entry.Refuse n ∷ js) ks = begins_of-append js ks
begins_of-append (entry.Carry n ∷ js) ks = begins_of-append js ks
begins_of-append (entry.Deliver n ∷ js) ks = begins_of-append js ks
begins_of-append (entry.Alien place sender bytes ∷ js) ks = begins_of-append js ks

-- ---- an entry of one domain

-- these begins, at the place of their home alone
abbrev at_home : List Entry → Option ℕ → ℕ → List Entry
at_home begun home place = cond (is_home place home) begun []

pub same_grow : (domains : List DomainView) → Grow (λ _. []) domains domains
same_grow domains = record { shares = refl; begins = λ place d within. sym (append-nil (begins_of (get_or domains place d).journal)) }

true_false : true ≡ false → ⊥
true_false e = absurd cc

by_place : (domains : List DomainView) (p place : ℕ) (x y d : DomainView) (begun : List Entry) (here : Bool) → eqb p place ≡ here → place < length domains → x ≡ get_or domains p d → begins_of y.journal ≡ begins_of x.journal ++ begun
    → begins_of (get_or (set domains p y) place d).journal ≡ begins_of (get_or domains place d).journal ++ cond here begun []
by_place domains p place x y d begun true here within is grown =
    let same : p ≡ place = eqb-true p place here in
    let now : get_or (set domains p y) place d ≡ y = ap (λ (n : ℕ). get_or (set domains n y) place d) same ∙ get_or-set_same domains place y d within in
    let was : x ≡ get_or domains place d = is ∙ ap (λ (n : ℕ). get_or domains n d) same in
    ap (λ (v : DomainView). begins_of v.journal) now ∙ (grown ∙ ap (λ (v : DomainView). begins_of v.journal ++ begun) was)
by_place domains p place x y d begun false here within is grown =
    let other : place ≢ p = λ e. absurd (true_false (sym (eq-eqb p place (sym e)) ∙ here)) in
    ap (λ (v : DomainView). begins_of v.journal) (get_or-set_other domains p place y d other) ∙ sym (append-nil (begins_of (get_or domains place d).journal))

slice_get_is : (domains : List DomainView) (p : ℕ) (x d : DomainView) → slice_get domains p ≡ Some x → x ≡ get_or domains p d
slice_get_is [] p x d e = absurd cc
slice_get_is (y ∷ domains) zero x d e = (let same : y ≡ x = cc in sym same)
slice_get_is (y ∷ domains) (suc p) x d e = slice_get_is domains p x d e

share_at : (domains : List DomainView) (p : ℕ) (x : DomainView) → slice_get domains p ≡ Some x → x.share ≡ get_or (map share_of domains) p x.share
share_at [] p x e = absurd cc
share_at (y ∷ domains) zero x e = (let same : y ≡ x = cc in ap share_of (sym same))
share_at (y ∷ domains) (suc p) x e = share_at domains p x e

made_grow : (domains : List DomainView) (p : ℕ) (e : Entry) (x : DomainView) (c : Change) → slice_get domains p ≡ Some x → Grow (at_home (begins_of (e ∷ [])) (Some p)) domains (made_by domains p e x c).domains
made_grow domains p e x c there = record {
  shares =
      map-set share_of domains p (after x e c)
      ∙ (ap (set (map share_of domains) p) (share_at domains p x there) ∙ set-get_or (map share_of domains) p x.share);
  begins = λ place d within. by_place domains p place x (after x e c) d (begins_of (e ∷ [])) (eqb p place) refl within (slice_get_is domains p x d there) (begins_of-append x.journal (e ∷ []));
}

some_is : {X : Type 0} (x y : X) → Some x ≡ Some y → x ≡ y
some_is x y e = cc

by_change : (domains : List DomainView) (p : ℕ) (e : Entry) (x : DomainView) (o : Option Change) (m : Made) → slice_get domains p ≡ Some x → option_map (made_by domains p e x) o ≡ Some m → Grow (at_home (begins_of (e ∷ [])) (Some p)) domains m.domains
by_change domains p e x None m there is = absurd cc
by_change domains p e x (Some c) m there is =
    subst (λ (n : Made). Grow (at_home (begins_of (e ∷ [])) (Some p)) domains n.domains) (some_is (made_by domains p e x c) m is) (made_grow domains p e x c there)

by_domain : (domains : List DomainView) (p : ℕ) (e : Entry) (o : Option DomainView) (m : Made) → o ≡ slice_get domains p → made_of domains p e o ≡ Some m → Grow (at_home (begins_of (e ∷ [])) (Some p)) domains m.domains
by_domain domains p e None m there is = absurd cc
by_domain domains p e (Some x) m there is = by_change domains p e x (change x.share x.state e) m (sym there) is

pub made_grows : (domains : List DomainView) (e : Entry) (home : Option ℕ) (m : Made) → made_at domains e home ≡ Some m → Grow (at_home (begins_of (e ∷ [])) home) domains m.domains
made_grows domains e None m is = absurd cc
made_grows domains e (Some p) m is = by_domain domains p e (slice_get domains p) m refl is

-- an entry that is no begin adds none
no_begin : (b : Bool) → ◌≡◌ {A = List Entry} (cond b [] []) []
no_begin true = refl
no_begin false = refl

pub ended_grows : (domains : List DomainView) (e : Entry) (home : Option ℕ) (m : Made) → begins_of (e ∷ []) ≡ [] → made_at domains e home ≡ Some m → Grow (λ _. []) domains m.domains
ended_grows domains e home m none is =
    let g = made_grows domains e home m is in
    record {
      shares = g.shares;
      begins = λ place d within. g.begins place d within
          ∙ (ap (λ (bs : List Entry). begins_of (get_or domains place d).journal ++ cond (is_home place home) bs []) none ∙ ap (λ (bs : List Entry). begins_of (get_or domains place d).journal ++ bs) (no_begin (is_home place home)));
    }

-- ---- what an event leaves

-- what the domains become
abbrev Leaves : List DomainView → (ℕ → List Entry) → Option World → Type 0
Leaves domains begun all = (v : World) → all ≡ Some v → Grow begun domains v.agents.domains

abbrev Nothing : ℕ → List Entry
Nothing place = []

-- the domains are the same
still : (w v u : World) → ◌≡◌ {A = Option World} (Some u) (Some v) → u.agents.domains ≡ w.agents.domains → Grow Nothing w.agents.domains v.agents.domains
still w v u is same = subst (λ (ds : List DomainView). Grow Nothing w.agents.domains ds) (sym same ∙ ap (λ (x : World). x.agents.domains) (some_is u v is)) (same_grow w.agents.domains)

-- of an entry whose packet waits in an outbox
emitted_grow : (agents : AgentsView) (origin : Origin) (begun : ℕ → List Entry) (o : Option Made) → ((m : Made) → o ≡ Some m → Grow begun agents.domains m.domains) → (e : AgentsView) → emitted_if agents origin o ≡ Some e → Grow begun agents.domains e.domains
emitted_grow agents origin begun None grow e is = absurd cc
emitted_grow agents origin begun (Some m) grow e is = subst (λ (x : AgentsView). Grow begun agents.domains x.domains) (some_is (emitted agents origin m) e is) (grow m refl)

begin_grow : (w : World) (begun : ℕ → List Entry) (o : Option AgentsView) → ((e : AgentsView) → o ≡ Some e → Grow begun w.agents.domains e.domains) → Leaves w.agents.domains begun (option_map (with_agents w) o)
begin_grow w begun None grow v is = absurd cc
begin_grow w begun (Some e) grow v is = subst (λ (x : World). Grow begun w.agents.domains x.agents.domains) (some_is (with_agents w e) v is) (grow e refl)

-- a packet moves on a link
wire_grow : (w : World) (o : Option (List (List Channel))) → Leaves w.agents.domains Nothing (option_map (with_channels w) o)
wire_grow w None v is = absurd cc
wire_grow w (Some cs) v is = still w v (with_channels w cs) is refl

one_if : (w v u : World) (b : Bool) → cond b None (Some u) ≡ Some v → u.agents.domains ≡ w.agents.domains → Grow Nothing w.agents.domains v.agents.domains
one_if w v u true is same = absurd cc
one_if w v u false is same = still w v u is same

enter_at_grow : (w : World) (origin : Origin) (class : Class) (o : Option LinkEnd) (t : Descriptor × List Descriptor) → Leaves w.agents.domains Nothing (entered_at w origin class o t)
enter_at_grow w origin class None t v is = absurd cc
enter_at_grow w origin class (Some end) t v is = one_if w v _ _ is refl

enter_grow : (w : World) (origin : Origin) (class : Class) (o : Option LinkEnd) (t : Option (Descriptor × List Descriptor)) → Leaves w.agents.domains Nothing (option_and_then (entered_at w origin class o) t)
enter_grow w origin class o None v is = absurd cc
enter_grow w origin class o (Some t) v is = enter_at_grow w origin class o t v is

-- a packet ends
ended_grow : (w : World) (t : Taken) (o : Option AgentsView) → ((e : AgentsView) → o ≡ Some e → Grow Nothing w.agents.domains e.domains) → Grow Nothing w.agents.domains (ended w t o).agents.domains
ended_grow w t None grow = same_grow w.agents.domains
ended_grow w t (Some e) grow = grow e refl

end_grow : (agents : AgentsView) (entry : Entry) (home : Option ℕ) → begins_of (entry ∷ []) ≡ [] → (m : Made) → made_at agents.domains entry home ≡ Some m → Grow Nothing agents.domains m.domains
end_grow agents entry home none m is = ended_grows agents.domains entry home m none is

carried_if : (agents : AgentsView) (entry : Entry) (home : Option ℕ) (b : Bool) → begins_of (entry ∷ []) ≡ [] → (m : Made) → cond b (made_at agents.domains entry home) None ≡ Some m → Grow Nothing agents.domains m.domains
carried_if agents entry home true none m is = end_grow agents entry home none m is
carried_if agents entry home false none m is = absurd cc

delivered_of : (agents : AgentsView) (o : Option Made) → ((m : Made) → o ≡ Some m → Grow Nothing agents.domains m.domains) → (e : AgentsView) → option_map (λ m. record { domains = m.domains; outboxes = agents.outboxes }) o ≡ Some e → Grow Nothing agents.domains e.domains
delivered_of agents None grow e is = absurd cc
delivered_of agents (Some m) grow e is = subst (λ (x : AgentsView). Grow Nothing agents.domains x.domains) (some_is (record { domains = m.domains; outboxes = agents.outboxes }) e is) (grow m refl)

-- of an entry of an alien packet
aliened_of : (agents : AgentsView) (at : Option ℕ) (place : Place) (sender : Parties) (item : Option Emission) (m : Made) → aliened_by agents.domains at place sender item ≡ Some m → Grow Nothing agents.domains m.domains
aliened_of agents at place sender None m is = absurd cc
aliened_of agents at place sender (Some e) m is = end_grow agents (entry.Alien place sender e.bytes) at refl m is

aliened_grow : (agents : AgentsView) (at : Option ℕ) (place : Place) (frame : Descriptor) (m : Made) → aliened_at agents.domains at place frame ≡ Some m → Grow Nothing agents.domains m.domains
aliened_grow agents at place frame m is = aliened_of agents at place frame.head.parties (flown agents.domains frame.domain frame.number) m is

-- what the agents become, where no begin is added
abbrev AgentsLeaves : AgentsView → Option AgentsView → Type 0
AgentsLeaves agents all = (e : AgentsView) → all ≡ Some e → Grow Nothing agents.domains e.domains

or_grow : (agents : AgentsView) (own other : Option AgentsView) → AgentsLeaves agents own → AgentsLeaves agents other → AgentsLeaves agents (or_else own other)
or_grow agents None other first second = second
or_grow agents (Some e) other first second = first

deliver_grow : (agents : AgentsView) (frame : Descriptor) → AgentsLeaves agents (delivered agents frame)
deliver_grow agents frame = delivered_of agents _ (end_grow agents (entry.Deliver frame.number) (place_of agents.domains frame.domain) refl)

own_host_grow : (agents : AgentsView) (frame : Descriptor) (received : Received) → AgentsLeaves agents (own_by_host agents frame received)
own_host_grow agents frame Received.Relayed e is = absurd cc
own_host_grow agents frame Received.Request e is = emitted_grow agents _ Nothing _ (end_grow agents (entry.Carry frame.number) (place_of agents.domains frame.domain) refl) e is
own_host_grow agents frame Received.Completion e is = deliver_grow agents frame e is
own_host_grow agents frame Received.Unknown e is = absurd cc

host_grow : (w : World) (t : Taken) (received : Received) → Grow Nothing w.agents.domains (ended w t (agents_by_host w.routes.ports w.agents t.frame received)).agents.domains
host_grow w t received =
    ended_grow w t (agents_by_host w.routes.ports w.agents t.frame received)
    (or_grow w.agents (own_by_host w.agents t.frame received) (alien_at_host w.routes.ports w.agents t.frame) (own_host_grow w.agents t.frame received)
    (emitted_grow w.agents _ Nothing _ (aliened_grow w.agents (place_of w.agents.domains (receiver_at_host w.routes.ports (owner_of_frame w.agents.domains) t.frame)) (Ingress to_host) t.frame)))

own_function_grow : (agents : AgentsView) (f : ℕ) (frame : Descriptor) (received : Received) → AgentsLeaves agents (own_by_function agents f frame received)
own_function_grow agents f frame Received.Relayed e is = absurd cc
own_function_grow agents f frame Received.Request e is =
    emitted_grow agents _ Nothing _ (carried_if agents (entry.Carry frame.number) (place_of agents.domains frame.domain) (is_function_of agents.domains f frame.domain) refl) e is
own_function_grow agents f frame Received.Completion e is = deliver_grow agents frame e is
own_function_grow agents f frame Received.Unknown e is = absurd cc

function_grow : (w : World) (f : ℕ) (t : Taken) (received : Received) → Grow Nothing w.agents.domains (arrived_by w f t received).agents.domains
function_grow w f t received =
    ended_grow w t (agents_by_function w.agents f t.frame received)
    (or_grow w.agents (own_by_function w.agents f t.frame received) (alien_at_function w.agents f t.frame) (own_function_grow w.agents f t.frame received)
    (emitted_grow w.agents _ Nothing _ (aliened_grow w.agents (place_of_function w.agents.domains f) (Ingress (to_function f)) t.frame)))

only : (w v u : World) → ◌≡◌ {A = Option World} (Some u) (Some v) → Grow Nothing w.agents.domains u.agents.domains → Grow Nothing w.agents.domains v.agents.domains
only w v u is grow = subst (λ (x : World). Grow Nothing w.agents.domains x.agents.domains) (some_is u v is) grow

relay_grow : (w : World) (t : Taken) (class : Class) (o : Option LinkEnd) → Leaves w.agents.domains Nothing (relayed w t class o)
relay_grow w t class None v is = absurd cc
relay_grow w t class (Some end) v is = one_if w v _ _ is refl

at_host_by_grow : (w : World) (class : Class) (t : Taken) (e : Received) → Leaves w.agents.domains Nothing (arrived_at_host_by w class t e)
at_host_by_grow w class t Received.Relayed v is = relay_grow w t class (sender_of w.tree.links from_host) v is
at_host_by_grow w class t Received.Request v is = only w v (ended w t (agents_by_host w.routes.ports w.agents t.frame Received.Request)) is (host_grow w t Received.Request)
at_host_by_grow w class t Received.Completion v is = only w v (ended w t (agents_by_host w.routes.ports w.agents t.frame Received.Completion)) is (host_grow w t Received.Completion)
at_host_by_grow w class t Received.Unknown v is = only w v (ended w t (agents_by_host w.routes.ports w.agents t.frame Received.Unknown)) is (host_grow w t Received.Unknown)

at_host_grow : (w : World) (class : Class) (o : Option Taken) → Leaves w.agents.domains Nothing (arrived_at_host w class o)
at_host_grow w class None v is = absurd cc
at_host_grow w class (Some t) v is = at_host_by_grow w class t (received_at_host t.frame) v is

arrived_grow : (w : World) (f : ℕ) (o : Option Taken) → Leaves w.agents.domains Nothing (arrived w f o)
arrived_grow w f None v is = absurd cc
arrived_grow w f (Some t) v is = only w v (arrived_by w f t (received_at w f t.frame)) is (function_grow w f t (received_at w f t.frame))

arrive_grow : (w : World) (f : ℕ) (o : Option Taken) (b : Bool) → Leaves w.agents.domains Nothing (cond b (arrived w f o) None)
arrive_grow w f o true v is = arrived_grow w f o v is
arrive_grow w f o false v is = absurd cc

-- a port takes a packet
refused_grow : (w : World) (site : Site) (report : Option Violation) (t : Taken) (o : Option Made) → ((m : Made) → o ≡ Some m → Grow Nothing w.agents.domains m.domains) → Grow Nothing w.agents.domains (refused_by w site report t o).agents.domains
refused_grow w site report t None grow = same_grow w.agents.domains
refused_grow w site report t (Some m) grow = grow m refl

stop_grow : (w : World) (site : Site) (report : Option Violation) (t : Taken) (b : Bool) → Leaves w.agents.domains Nothing (cond b None (Some (refused_by w site report t (made w.agents.domains t.frame.domain (entry.Refuse t.frame.number)))))
stop_grow w site report t true v is = absurd cc
stop_grow w site report t false v is =
    only w v (refused_by w site report t (made w.agents.domains t.frame.domain (entry.Refuse t.frame.number))) is
    (refused_grow w site report t (made w.agents.domains t.frame.domain (entry.Refuse t.frame.number)) (end_grow w.agents (entry.Refuse t.frame.number) (place_of w.agents.domains t.frame.domain) refl))

forward_grow : (w v x y : World) (a b : Bool) → cond a None (cond b (Some x) (Some y)) ≡ Some v → x.agents.domains ≡ w.agents.domains → y.agents.domains ≡ w.agents.domains → Grow Nothing w.agents.domains v.agents.domains
forward_grow w v x y true b is first second = absurd cc
forward_grow w v x y false true is first second = still w v x is first
forward_grow w v x y false false is first second = still w v y is second

pass_by_grow : (w : World) (site : Site) (class : Class) (t : Taken) (c : Forwarding) → Leaves w.agents.domains Nothing (passed_by w site class t c)
pass_by_grow w site class t (To output) v is = forward_grow w v _ _ _ _ is refl refl
pass_by_grow w site class t (Stop report) v is = stop_grow w site report t (answer_waits w site class) v is
pass_by_grow w site class t NoCase v is = still w v _ is refl

pass_at_grow : (w : World) (site : Site) (class : Class) (o : Option Taken) → Leaves w.agents.domains Nothing (option_and_then (passed w site class) o)
pass_at_grow w site class None v is = absurd cc
pass_at_grow w site class (Some t) v is = pass_by_grow w site class t (course_of w.routes site.config t.frame.head) v is

turn_grow : (w : World) (class : Class) (o : Option ℕ) → Leaves w.agents.domains Nothing (passed_number w class o)
turn_grow w class None v is = absurd cc
turn_grow w class (Some i) v is = let place = get_or w.tree.places i no_place in pass_at_grow w (site_at w i place) class (taken_at w.channels class place.input) v is

-- or misroutes it
misrouting_with_grow : (w : World) (misrouted : Misrouted) (t : Taken) (o : Option Made) → ((m : Made) → o ≡ Some m → Grow Nothing w.agents.domains m.domains) → (l : Misrouting) → misrouting_with misrouted t o ≡ Some l → Grow Nothing w.agents.domains l.made.domains
misrouting_with_grow w misrouted t None grow l is = absurd cc
misrouting_with_grow w misrouted t (Some m) grow l is = subst (λ (x : Misrouting). Grow Nothing w.agents.domains x.made.domains) (some_is (record { misrouted = misrouted; taken = t; made = m }) l is) (grow m refl)

misrouting_there_grow : (w : World) (misrouted : Misrouted) (t : Taken) (is_there : Bool) (l : Misrouting) → cond is_there (misrouting_with misrouted t (aliened w.agents.domains t.frame.domain misrouted.place t.frame)) None ≡ Some l → Grow Nothing w.agents.domains l.made.domains
misrouting_there_grow w misrouted t true l is =
    misrouting_with_grow w misrouted t (aliened w.agents.domains t.frame.domain misrouted.place t.frame) (aliened_grow w.agents (place_of w.agents.domains t.frame.domain) misrouted.place t.frame) l is
misrouting_there_grow w misrouted t false l is = absurd cc

misrouting_taken_grow : (w : World) (misrouted : Misrouted) (o : Option Taken) (l : Misrouting) → option_and_then (misrouting_to w misrouted) o ≡ Some l → Grow Nothing w.agents.domains l.made.domains
misrouting_taken_grow w misrouted None l is = absurd cc
misrouting_taken_grow w misrouted (Some t) l is = misrouting_there_grow w misrouted t (is_at_port_of w.agents.domains t.frame.domain misrouted.place) l is

misrouting_by_grow : (w : World) (class : Class) (o : Option Misrouted) (l : Misrouting) → misrouting_by w class o ≡ Some l → Grow Nothing w.agents.domains l.made.domains
misrouting_by_grow w class None l is = absurd cc
misrouting_by_grow w class (Some misrouted) l is = misrouting_taken_grow w misrouted (taken_at w.channels class (Some misrouted.input)) l is

misroute_grow : (w v : World) (l : Misrouting) (b : Bool) → Grow Nothing w.agents.domains l.made.domains → cond b None (Some (without_misrouted w l)) ≡ Some v → Grow Nothing w.agents.domains v.agents.domains
misroute_grow w v l true grow is = absurd cc
misroute_grow w v l false grow is = only w v (without_misrouted w l) is grow

pass_grow : (w : World) (port : ℕ) (class : Class) (o : Option Misrouting) → misrouting w port class ≡ o → Leaves w.agents.domains Nothing (passed_unless w port class o)
pass_grow w port class None e v is = turn_grow w class (index_of w.tree.places port) v is
pass_grow w port class (Some l) e v is =
    misroute_grow w v l (answers (Some l.made) && is_full Completion (channel_at w.channels l.misrouted.own)) (misrouting_by_grow w class (misrouted_among w.tree w.routes w.channels w.ports port class) l e) is

-- ---- each event

effect_grow : (w : World) (event : Event) → Leaves w.agents.domains (λ place. begun_at w.agents.domains place event) (effect w event)
effect_grow w (Submit f b) = begin_grow w _ _ (emitted_grow w.agents _ _ _ (made_grows w.agents.domains (entry.Submit f b) (place_of_function w.agents.domains f)))
effect_grow w (Tick f) = begin_grow w _ _ (emitted_grow w.agents _ _ _ (made_grows w.agents.domains (entry.Tick f) (place_of_function w.agents.domains f)))
effect_grow w (Mmio domain access) = begin_grow w _ _ (emitted_grow w.agents _ _ _ (made_grows w.agents.domains (entry.Mmio access) (place_of w.agents.domains domain)))
effect_grow w (Enter origin class) = enter_grow w origin class (sender_of w.tree.links (link_of origin)) (eligible class (waiting_of w.agents.outboxes origin))
effect_grow w (Pass port class) = pass_grow w port class (misrouting w port class) refl
effect_grow w (Send direction class) = wire_grow w (on_channel w.channels (sender_of w.tree.links direction) (send class))
effect_grow w (Take direction) = wire_grow w (on_channel w.channels (sender_of w.tree.links direction) deliver)
effect_grow w (Credit direction) = wire_grow w (on_channel w.channels (sender_of w.tree.links direction) update_fc)
effect_grow w (Root class) = at_host_grow w class (taken w to_host class)
effect_grow w (Arrive f class) = arrive_grow w f (taken w (to_function f) class) (is_some (place_of_function w.agents.domains f))

same_world : (w v : World) → v ≡ w → Grow Nothing w.agents.domains v.agents.domains
same_world w v e = subst (λ (x : World). Grow Nothing w.agents.domains x.agents.domains) (sym e) (same_grow w.agents.domains)

pub step_grow : (w v : World) (event : Event) (o : Outcome) → StepsTo w event o v → Grow (λ place. accepted_one w.agents.domains place event o) w.agents.domains v.agents.domains
step_grow w v event Moved s = effect_grow w event v s
step_grow w v event Idle s = same_world w v s.2
step_grow w v event (Refused fault) s = same_world w v s.1
step_grow w v event NoMemory s = same_world w v s.2

-- ---- a run

module _ (old new : List DomainView) (shares : map share_of new ≡ map share_of old) where
  pub function_same : (f : ℕ) → place_of_function new f ≡ place_of_function old f
  unfolding place_of_function
  function_same f =
      sym (position_map (λ s. is_own_function s f) share_of new)
      ∙ (ap (position (λ s. is_own_function s f)) shares ∙ position_map (λ s. is_own_function s f) share_of old)

  pub domain_same : (n : ℕ) → place_of new n ≡ place_of old n
  unfolding place_of
  domain_same n = sym (position_map (λ (s : Share). s.domain == n) share_of new) ∙ (ap (position (λ (s : Share). s.domain == n)) shares ∙ position_map (λ (s : Share). s.domain == n) share_of old)

  begun_same : (place : ℕ) (event : Event) → begun_at new place event ≡ begun_at old place event
  begun_same place (Submit f b) = ap (λ (o : Option ℕ). cond (is_home place o) (entry.Submit f b ∷ []) []) (function_same f)
  begun_same place (Tick f) = ap (λ (o : Option ℕ). cond (is_home place o) (entry.Tick f ∷ []) []) (function_same f)
  begun_same place (Mmio domain access) = ap (λ (o : Option ℕ). cond (is_home place o) (entry.Mmio access ∷ []) []) (domain_same domain)
  begun_same place (Enter origin class) = refl
  begun_same place (Pass port class) = refl
  begun_same place (Send direction class) = refl
  begun_same place (Take direction) = refl
  begun_same place (Credit direction) = refl
  begun_same place (Root class) = refl
  begun_same place (Arrive f class) = refl

  one_same : (place : ℕ) (event : Event) (o : Outcome) → accepted_one new place event o ≡ accepted_one old place event o
  one_same place event Moved = begun_same place event
  one_same place event Idle = refl
  one_same place event (Refused fault) = refl
  one_same place event NoMemory = refl

  accepted_same : (place : ℕ) (es : List Event) (os : List Outcome) → accepted new place es os ≡ accepted old place es os
  accepted_same place [] os = refl
  accepted_same place (e ∷ es) [] = refl
  accepted_same place (e ∷ es) (o ∷ os) = ap (λ (l : List Entry). l ++ accepted new place es os) (one_same place e o) ∙ ap (λ (l : List Entry). accepted_one old place e o ++ l) (accepted_same place es os)

-- to the begins in each journal a run adds the accepted ones
pub run_grow : (w v : World) (es : List Event) (os : List Outcome) → Run w es os v → HaveBegun es os w.agents.domains v.agents.domains
run_grow w v [] [] r = same_world w v r
run_grow w v (e ∷ es) (o ∷ os) r =
    let one = step_grow w r.0 e o r.1 in
    let more = run_grow r.0 v es os r.2 in
    let long : length r.0.agents.domains ≡ length w.agents.domains = sym (length-map r.0.agents.domains share_of) ∙ (ap length one.shares ∙ length-map w.agents.domains share_of) in
    record {
      shares = more.shares ∙ one.shares;
      begins = λ place d within. more.begins place d (omega arith)
          ∙ (ap (λ (bs : List Entry). bs ++ accepted r.0.agents.domains place es os) (one.begins place d within)
          ∙ (append_assoc (begins_of (get_or w.agents.domains place d).journal) (accepted_one w.agents.domains place e o) (accepted r.0.agents.domains place es os)
          ∙ ap (λ (bs : List Entry). begins_of (get_or w.agents.domains place d).journal ++ (accepted_one w.agents.domains place e o ++ bs)) (accepted_same w.agents.domains r.0.agents.domains one.shares place es os)));
    }
run_grow w v [] (o ∷ os) r = absurd r
run_grow w v (e ∷ es) [] r = absurd r
