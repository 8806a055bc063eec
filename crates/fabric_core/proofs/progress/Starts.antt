-- What every event leaves as it is, in every layout: the tree, what the ports are, which outboxes there are, and the credits that
-- each receiver advertised at the start (PCIe 4.0, 2.6.1).
use Rattle.std.proofs.Common.{◌≡◌, ◌⊎◌, ℕ, zero, suc, Bool, true, false, cond, List, [], ◌∷◌, ◌++◌, map, set, get_or, slice_get, Option, Some, None, refl, sym, ap, ◌∙◌, subst, inl, inr}
use Rattle.std.specs.Prelude.{option_map}
use Rattle.std.specs.Option.{IfSome, option_and_then}
use Rattle.fab_types.specs.declared.class.Class.{Class}
use Rattle.fab_types.specs.declared.outcome.Outcome.{Outcome}
use Rattle.fab_types.specs.declared.outcome.Outcome.TheVariants.{Moved, Idle, Refused, NoMemory}
use Rattle.fab_types.specs.declared.origin.Origin.{Origin}
use Rattle.fab_types.specs.declared.origin.Origin.TheVariants.{Function, Host}
use Rattle.fab_types.specs.Origins.{same_origin}
use Rattle.fab_types.proofs.Origins.{one_origin}
use Rattle.fab_types.specs.declared.violation.Violation.{Violation}
use Rattle.frame_log.specs.Descriptor.{Descriptor}
use Rattle.domains.specs.Agents.{AgentsView, AreFound, Outbox, accessed, carried_at, emitted_if, joined, outbox_place, submitted, taken_from as waiting_taken, ticked, waiting_of, with_waiting, with_waiting_at, with_waiting_in}
use Rattle.domains.proofs.Lists.{each_place, found_there, position_kept}
use Rattle.domain.specs.declared.entry.Entry.TheVariants as entry
use Rattle.domains.specs.Aliens.{aliened, owner_of_frame}
use Rattle.domains.specs.Domains.{Made, made}
use Rattle.credit.specs.declared.counters.Counters.{Counters}
use Rattle.lane.specs.Lanes.{eligible}
use Rattle.link.specs.Channels.{Channel, deliver, has_room, is_full, received_of, same_counters, send, sent_on, spent, unspent, update_fc}
use Rattle.port.specs.Configs.{Config}
use Rattle.port.specs.Courses.{course_of}
use Rattle.port.specs.Turns.{PortView}
use Rattle.port.specs.declared.course.Forwarding.{Forwarding}
use Rattle.port.specs.declared.course.Forwarding.TheVariants.{To, Stop, NoCase}
use Rattle.topology.specs.Links.{sender_of}
use Rattle.topology.specs.declared.nodes.LinkEnd.{LinkEnd}
use Rattle.interconnect.specs.declared.misrouted.Misrouted.{Misrouted}
use Rattle.interconnect.specs.Misrouted.{misrouted_among}
use Rattle.interconnect.specs.Moves.{channel_at, left_at, on_channel, put_at, with_channel}
use Rattle.interconnect.specs.Passes.{index_of, no_place, no_port}
use Rattle.switch_output.specs.Vetted.{may_go_on}
use Rattle.fabric_core.specs.declared.event.Event.{Event}
use Rattle.fabric_core.specs.declared.event.Event.TheVariants.{Arrive, Credit, Enter, Mmio, Pass, Root, Send, Submit, Take, Tick}
use Rattle.fabric_core.specs.Aliens.{alien_at_function, alien_at_host, or_else, to_function, to_host}
use Rattle.received.specs.Receivers.{receiver_at_host}
use Rattle.fabric_core.specs.Events.{StepsTo, effect, entered_at, link_of}
use Rattle.fabric_core.specs.Misrouting.{Misrouting, is_at_port_of, misrouting, misrouting_by, misrouting_to, misrouting_with, passed_unless, without_misrouted}
use Rattle.fabric_core.specs.Passing.{Site, answer_waits, answered_at, is_full_at, kept_by, output_end, passed, passed_by, passed_number, refused_by, site_at, strayed}
use Rattle.fabric_core.specs.Arrivals.{Taken, agents_by_function, agents_by_host, arrived, ended, from_host, own_by_function, own_by_host, received_at, relayed, arrived_at_host, arrived_at_host_by, taken, taken_at, taken_from}
use Rattle.received.specs.declared.received.Received.{Received}
use Rattle.received.specs.Received.{received_at_host}
use Rattle.fabric_core.specs.Soundness.{config_of}
use Rattle.fabric_core.specs.World.{World, with_agents, with_both, with_channels}
use Rattle.fabric_core.proofs.soundness.SoundLinks.{Either, either_channel}

-- ---- the starts of directions

abbrev pub start_at : List (List Channel) → LinkEnd → Counters
start_at channels end = (channel_at channels end).start

abbrev pub SameStarts : List (List Channel) → List (List Channel) → Type 0
SameStarts old new = (end : LinkEnd) → start_at new end ≡ start_at old end

pub starts_with : (channels : List (List Channel)) (end : LinkEnd) (c : Channel) → c.start ≡ start_at channels end → SameStarts channels (with_channel channels end c)
starts_with channels end c same other = by (either_channel channels end other c)
  where
    by : Either channels end other c → start_at (with_channel channels end c) other ≡ start_at channels other
    by (inl is) = ap (λ (x : Channel). x.start) is
    by (inr h) = ap (λ (x : Channel). x.start) h.1 ∙ (same ∙ ap (start_at channels) (sym h.0))

starts_put : (old channels : List (List Channel)) (end : LinkEnd) (frame : Descriptor) → SameStarts old channels → SameStarts old (put_at channels end frame)
starts_put old channels end frame same other = starts_with channels end _ refl other ∙ same other

starts_left : (channels : List (List Channel)) (end : LinkEnd) (left : List Descriptor) → SameStarts channels (left_at channels end left)
starts_left channels end left = starts_with channels end _ refl

starts_answered : (old channels : List (List Channel)) (end : LinkEnd) (answer : Option Descriptor) → SameStarts old channels → SameStarts old (answered_at channels end answer)
starts_answered old channels end None same = same
starts_answered old channels end (Some answer) same = starts_put old channels end answer same

-- ---- the outboxes

abbrev pub origin_of : Outbox → Origin
origin_of box = box.origin

-- these outboxes are those of the same origins, and what waits in any is found by its origin, if it was
pub record SameBoxes (old new : List Outbox) : Type 0 where
  pub origins : map origin_of new ≡ map origin_of old
  pub found : AreFound old → AreFound new

same_boxes : (boxes : List Outbox) → SameBoxes boxes boxes
same_boxes boxes = record { origins = refl; found = λ found. found }

map_set : {X Y : Type 0} (f : X → Y) (xs : List X) (i : ℕ) (old new : X) → slice_get xs i ≡ Some old → f new ≡ f old → map f (set xs i new) ≡ map f xs
map_set f [] i old new at same = refl
map_set {Y = Y} f (x ∷ xs) zero old new at same = let is : x ≡ old = cc in ap (λ (y : Y). y ∷ map f xs) (same ∙ ap f (sym is))
map_set {Y = Y} f (x ∷ xs) (suc i) old new at same = ap (λ (ys : List Y). f x ∷ ys) (map_set f xs i old new at same)

module _ (boxes : List Outbox) (origin : Origin) (waiting : List Descriptor) where
  -- what waits at a place of these outboxes is found there
  abbrev IsFoundAt : ℕ → Outbox → Type 0
  IsFoundAt place box = (box.waiting ≡ []) ⊎ (outbox_place boxes box.origin ≡ Some place)

  waiting_found : (place : ℕ) (box : Outbox) → outbox_place boxes origin ≡ Some place → slice_get boxes place ≡ Some box → AreFound boxes → AreFound (set boxes place (record { origin = box.origin; waiting = waiting }))
  unfolding outbox_place
  waiting_found place box found at was i other there =
      moved (each_place IsFoundAt boxes place (record { origin = box.origin; waiting = waiting }) (inr here) (λ j x apart is. was j x is) i other there)
    where
      here : outbox_place boxes box.origin ≡ Some place
      here = ap (outbox_place boxes) (one_origin box.origin origin (found_there (λ (b : Outbox). same_origin b.origin origin) boxes place box found at)) ∙ found

      moved : IsFoundAt i other → (other.waiting ≡ []) ⊎ (outbox_place (set boxes place (record { origin = box.origin; waiting = waiting })) other.origin ≡ Some i)
      moved (inl none) = inl none
      moved (inr is) = inr (position_kept (λ (b : Outbox). same_origin b.origin other.origin) boxes place box (record { origin = box.origin; waiting = waiting }) at refl ∙ is)

  waiting_boxes_in : (place : ℕ) (o : Option Outbox) → outbox_place boxes origin ≡ Some place → slice_get boxes place ≡ o → SameBoxes boxes (with_waiting_in boxes place waiting o)
  waiting_boxes_in place None found at = same_boxes boxes
  waiting_boxes_in place (Some box) found at = record { origins = map_set origin_of boxes place box (record { origin = box.origin; waiting = waiting }) at refl; found = waiting_found place box found at }

  waiting_boxes_at : (o : Option ℕ) → outbox_place boxes origin ≡ o → SameBoxes boxes (with_waiting_at boxes waiting o)
  waiting_boxes_at None found = same_boxes boxes
  waiting_boxes_at (Some place) found = waiting_boxes_in place (slice_get boxes place) found refl

  waiting_boxes : SameBoxes boxes (with_waiting boxes origin waiting)
  waiting_boxes = waiting_boxes_at (outbox_place boxes origin) refl

joined_boxes : (boxes : List Outbox) (origin : Origin) (frame : Option Descriptor) → SameBoxes boxes (joined boxes origin frame)
joined_boxes boxes origin None = same_boxes boxes
joined_boxes boxes origin (Some frame) = waiting_boxes boxes origin _

abbrev pub SameOutboxes : AgentsView → AgentsView → Type 0
SameOutboxes old new = SameBoxes old.outboxes new.outboxes

emitted_boxes : (agents : AgentsView) (origin : Origin) (all : Option Made) → IfSome (emitted_if agents origin all) (SameOutboxes agents)
emitted_boxes agents origin None = tt
emitted_boxes agents origin (Some m) = joined_boxes agents.outboxes origin m.sent

abbrev with_domains : AgentsView → Made → AgentsView
with_domains agents m = record { domains = m.domains; outboxes = agents.outboxes }

delivered_boxes : (agents : AgentsView) (all : Option Made) → IfSome (option_map (with_domains agents) all) (SameOutboxes agents)
delivered_boxes agents None = tt
delivered_boxes agents (Some m) = same_boxes agents.outboxes

either_boxes : (agents : AgentsView) (own other : Option AgentsView) → IfSome own (SameOutboxes agents) → IfSome other (SameOutboxes agents) → IfSome (or_else own other) (SameOutboxes agents)
either_boxes agents None other own_same other_same = other_same
either_boxes agents (Some new) other own_same other_same = own_same

-- ---- what stays

pub record Stays (old new : World) : Type 0 where
  pub tree : new.tree ≡ old.tree
  pub routes : new.routes ≡ old.routes
  pub configs : map config_of new.ports ≡ map config_of old.ports
  pub starts : SameStarts old.channels new.channels
  pub boxes : SameOutboxes old.agents new.agents

pub same_stays : (w : World) → Stays w w
same_stays w = record { tree = refl; routes = refl; configs = refl; starts = λ end. refl; boxes = same_boxes w.agents.outboxes }

-- one of two, or none
unless : (P : World → Type 0) (b : Bool) (w : World) → P w → IfSome (cond b None (Some w)) P
unless P true w h = tt
unless P false w h = h

one_of : (P : World → Type 0) (b c : Bool) (w v : World) → P w → P v → IfSome (cond b None (cond c (Some w) (Some v))) P
one_of P true c w v h k = tt
one_of P false true w v h k = h
one_of P false false w v h k = k

module _ (w : World) where
  -- ---- the agents alone

  agents_stay : (o : Option AgentsView) → IfSome o (SameOutboxes w.agents) → IfSome (option_map (with_agents w) o) (Stays w)
  agents_stay None same = tt
  agents_stay (Some agents) same = record { tree = refl; routes = refl; configs = refl; starts = λ end. refl; boxes = same }

  -- ---- one direction

  channels_stay : (channels : List (List Channel)) → SameStarts w.channels channels → Stays w (with_channels w channels)
  channels_stay channels same = record { tree = refl; routes = refl; configs = refl; starts = same; boxes = same_boxes w.agents.outboxes }

  step_stays_at : (end : LinkEnd) (o : Option Channel) → IfSome o (λ (c : Channel). c.start ≡ start_at w.channels end) → IfSome (option_map (with_channels w) (option_map (with_channel w.channels end) o)) (Stays w)
  step_stays_at end None same = tt
  step_stays_at end (Some c) same = channels_stay (with_channel w.channels end c) (starts_with w.channels end c same)

  step_stays : (found : Option LinkEnd) (step : Channel → Option Channel) → ((c : Channel) → IfSome (step c) (λ (c' : Channel). c'.start ≡ c.start)) → IfSome (option_map (with_channels w) (on_channel w.channels found step)) (Stays w)
  step_stays None step same = tt
  step_stays (Some end) step same = step_stays_at end (step (channel_at w.channels end)) (same (channel_at w.channels end))

  -- ---- a packet is taken

  taken_starts_of : (end : LinkEnd) (o : Option (Descriptor × List Descriptor)) → IfSome (option_map (taken_from w.channels end) o) (λ (t : Taken). SameStarts w.channels t.channels)
  taken_starts_of end None = tt
  taken_starts_of end (Some taken) = starts_left w.channels end taken.1

  taken_starts : (class : Class) (found : Option LinkEnd) → IfSome (taken_at w.channels class found) (λ (t : Taken). SameStarts w.channels t.channels)
  taken_starts class None = tt
  taken_starts class (Some end) = taken_starts_of end (eligible class (channel_at w.channels end).ingress)

  entered_stays : (origin : Origin) (class : Class) (found : Option LinkEnd) (o : Option (Descriptor × List Descriptor)) → IfSome (option_and_then (entered_at w origin class found) o) (Stays w)
  entered_stays origin class found None = tt
  entered_stays origin class None (Some taken) = tt
  entered_stays origin class (Some end) (Some taken) =
      unless (Stays w) (is_full class (channel_at w.channels end)) (with_both w (put_at w.channels end taken.0) (waiting_taken w.agents origin taken.1))
      (record { tree = refl; routes = refl; configs = refl; starts = starts_put w.channels w.channels end taken.0 (λ other. refl); boxes = waiting_boxes w.agents.outboxes origin taken.1 })

  -- ---- at the host and at a function

  ended_stays : (t : Taken) (o : Option AgentsView) → SameStarts w.channels t.channels → IfSome o (SameOutboxes w.agents) → Stays w (ended w t o)
  ended_stays t None starts same = record { tree = refl; routes = refl; configs = refl; starts = starts; boxes = same_boxes w.agents.outboxes }
  ended_stays t (Some agents) starts same = record { tree = refl; routes = refl; configs = refl; starts = starts; boxes = same }

  by_host : (frame : Descriptor) (received : Received) → IfSome (agents_by_host w.routes.ports w.agents frame received) (SameOutboxes w.agents)
  by_host frame received = either_boxes w.agents (own_by_host w.agents frame received) (alien_at_host w.routes.ports w.agents frame) (own received) (emitted_boxes w.agents (Host (receiver_at_host w.routes.ports (owner_of_frame w.agents.domains) frame)) _)
    where
      own : (r : Received) → IfSome (own_by_host w.agents frame r) (SameOutboxes w.agents)
      own Received.Relayed = tt
      own Received.Request = emitted_boxes w.agents (Host frame.domain) _
      own Received.Completion = delivered_boxes w.agents (made w.agents.domains frame.domain (entry.Deliver frame.number))
      own Received.Unknown = tt

  by_function : (function : ℕ) (frame : Descriptor) (received : Received) → IfSome (agents_by_function w.agents function frame received) (SameOutboxes w.agents)
  by_function function frame received = either_boxes w.agents (own_by_function w.agents function frame received) (alien_at_function w.agents function frame) (own received) (emitted_boxes w.agents (Function function) _)
    where
      own : (r : Received) → IfSome (own_by_function w.agents function frame r) (SameOutboxes w.agents)
      own Received.Relayed = tt
      own Received.Request = emitted_boxes w.agents (Function function) (carried_at w.agents.domains function frame)
      own Received.Completion = delivered_boxes w.agents (made w.agents.domains frame.domain (entry.Deliver frame.number))
      own Received.Unknown = tt

  at_host_stays_by : (class : Class) (t : Taken) (received : Received) → SameStarts w.channels t.channels → IfSome (arrived_at_host_by w class t received) (Stays w)
  at_host_stays_by class t Received.Relayed starts = by (sender_of w.tree.links from_host)
    where
      by : (found : Option LinkEnd) → IfSome (relayed w t class found) (Stays w)
      by None = tt
      by (Some end) = unless (Stays w) (is_full class (channel_at w.channels end)) (with_channels w (put_at t.channels end t.frame)) (channels_stay (put_at t.channels end t.frame) (starts_put w.channels t.channels end t.frame starts))
  at_host_stays_by class t Received.Request starts = ended_stays t _ starts (by_host t.frame Received.Request)
  at_host_stays_by class t Received.Completion starts = ended_stays t _ starts (by_host t.frame Received.Completion)
  at_host_stays_by class t Received.Unknown starts = ended_stays t _ starts (by_host t.frame Received.Unknown)

  at_host_stays : (class : Class) (o : Option Taken) → IfSome o (λ (t : Taken). SameStarts w.channels t.channels) → IfSome (arrived_at_host w class o) (Stays w)
  at_host_stays class None starts = tt
  at_host_stays class (Some t) starts = at_host_stays_by class t (received_at_host t.frame) starts

  arrived_stays : (function : ℕ) (o : Option Taken) → IfSome o (λ (t : Taken). SameStarts w.channels t.channels) → IfSome (arrived w function o) (Stays w)
  arrived_stays function None starts = tt
  arrived_stays function (Some t) starts = ended_stays t _ starts (by_function function t.frame (received_at w function t.frame))

  arrive_stays : (b : Bool) (o : Option World) → IfSome o (Stays w) → IfSome (cond b o None) (Stays w)
  arrive_stays true o stays = stays
  arrive_stays false o stays = tt

  -- ---- at a port

  kept_configs : (ports : List PortView) (i : ℕ) (frame : Descriptor) → map config_of (set ports i (kept_by (get_or ports i no_port) frame)) ≡ map config_of ports
  kept_configs [] i frame = refl
  kept_configs (p ∷ ps) zero frame = refl
  kept_configs (p ∷ ps) (suc i) frame = ap (λ (cs : List Config). p.config ∷ cs) (kept_configs ps i frame)

  strayed_stays : (site : Site) (t : Taken) → SameStarts w.channels t.channels → Stays w (strayed w site t)
  strayed_stays site t starts = record { tree = refl; routes = refl; configs = kept_configs w.ports site.number t.frame; starts = starts; boxes = same_boxes w.agents.outboxes }

  refused_stays : (site : Site) (report : Option Violation) (t : Taken) (o : Option Made) → SameStarts w.channels t.channels → Stays w (refused_by w site report t o)
  refused_stays site report t None starts = strayed_stays site t starts
  refused_stays site report t (Some m) starts = record { tree = refl; routes = refl; configs = refl; starts = starts_answered w.channels t.channels (output_end site site.config.own) m.sent starts; boxes = same_boxes w.agents.outboxes }

  passed_stays_by : (site : Site) (class : Class) (t : Taken) (course : Forwarding) → SameStarts w.channels t.channels → IfSome (passed_by w site class t course) (Stays w)
  passed_stays_by site class t (To output) starts =
      one_of (Stays w) (is_full_at w site output class) (may_go_on w.routes.ports t.frame) (with_channels w (put_at t.channels (output_end site output) t.frame)) (strayed w site t)
      (channels_stay (put_at t.channels (output_end site output) t.frame) (starts_put w.channels t.channels (output_end site output) t.frame starts)) (strayed_stays site t starts)
  passed_stays_by site class t (Stop report) starts =
      unless (Stays w) (answer_waits w site class) (refused_by w site report t (made w.agents.domains t.frame.domain (entry.Refuse t.frame.number))) (refused_stays site report t _ starts)
  passed_stays_by site class t NoCase starts = strayed_stays site t starts

  passed_stays : (site : Site) (class : Class) (o : Option Taken) → IfSome o (λ (t : Taken). SameStarts w.channels t.channels) → IfSome (option_and_then (passed w site class) o) (Stays w)
  passed_stays site class None starts = tt
  passed_stays site class (Some t) starts = passed_stays_by site class t (course_of w.routes site.config t.frame.head) starts

  turned_stays : (class : Class) (o : Option ℕ) → IfSome (passed_number w class o) (Stays w)
  turned_stays class None = tt
  turned_stays class (Some i) =
      passed_stays (site_at w i (get_or w.tree.places i no_place)) class (taken_at w.channels class (get_or w.tree.places i no_place).input) (taken_starts class (get_or w.tree.places i no_place).input)

  -- what a port is about to misroute was taken there
  misrouting_with_starts : (l : Misrouted) (t : Taken) (o : Option Made) → SameStarts w.channels t.channels → IfSome (misrouting_with l t o) (λ (x : Misrouting). SameStarts w.channels x.taken.channels)
  misrouting_with_starts l t None starts = tt
  misrouting_with_starts l t (Some m) starts = starts

  misrouting_to_starts : (b : Bool) (o : Option Misrouting) → IfSome o (λ (x : Misrouting). SameStarts w.channels x.taken.channels) → IfSome (cond b o None) (λ (x : Misrouting). SameStarts w.channels x.taken.channels)
  misrouting_to_starts true o starts = starts
  misrouting_to_starts false o starts = tt

  misrouting_taken_starts : (l : Misrouted) (o : Option Taken) → IfSome o (λ (t : Taken). SameStarts w.channels t.channels) → IfSome (option_and_then (misrouting_to w l) o) (λ (x : Misrouting). SameStarts w.channels x.taken.channels)
  misrouting_taken_starts l None starts = tt
  misrouting_taken_starts l (Some t) starts =
      misrouting_to_starts (is_at_port_of w.agents.domains t.frame.domain l.place) (misrouting_with l t (aliened w.agents.domains t.frame.domain l.place t.frame)) (misrouting_with_starts l t (aliened w.agents.domains t.frame.domain l.place t.frame) starts)

  misrouting_starts : (class : Class) (o : Option Misrouted) → IfSome (misrouting_by w class o) (λ (x : Misrouting). SameStarts w.channels x.taken.channels)
  misrouting_starts class None = tt
  misrouting_starts class (Some l) = misrouting_taken_starts l (taken_at w.channels class (Some l.input)) (taken_starts class (Some l.input))

  pass_stays : (port : ℕ) (class : Class) (o : Option Misrouting) → IfSome o (λ (x : Misrouting). SameStarts w.channels x.taken.channels) → IfSome (passed_unless w port class o) (Stays w)
  pass_stays port class None starts = turned_stays class (index_of w.tree.places port)
  pass_stays port class (Some l) starts =
      unless (Stays w) _ (without_misrouted w l) (record { tree = refl; routes = refl; configs = refl; starts = starts_answered w.channels l.taken.channels l.misrouted.own l.made.sent starts; boxes = same_boxes w.agents.outboxes })

-- ---- one direction keeps its start

some_if : (start : Counters) (b : Bool) (x : Channel) → x.start ≡ start → IfSome (cond b (Some x) None) (λ (c : Channel). c.start ≡ start)
some_if start true x same = same
some_if start false x same = tt

none_if : (start : Counters) (b : Bool) (x : Channel) → x.start ≡ start → IfSome (cond b None (Some x)) (λ (c : Channel). c.start ≡ start)
none_if start true x same = tt
none_if start false x same = same

send_start : (class : Class) (c : Channel) → IfSome (send class c) (λ (c' : Channel). c'.start ≡ c.start)
send_start class c = of (eligible class c.egress)
  where
    of : (o : Option (Descriptor × List Descriptor)) → IfSome (sent_on c o) (λ (c' : Channel). c'.start ≡ c.start)
    of None = tt
    of (Some taken) = some_if c.start (has_room c.left taken.0.head.cost) (record { start = c.start; left = spent c.left taken.0.head.cost; egress = taken.1; wire = c.wire ++ taken.0 ∷ []; ingress = c.ingress }) refl

deliver_start : (c : Channel) → IfSome (deliver c) (λ (c' : Channel). c'.start ≡ c.start)
deliver_start c = of c.wire
  where
    of : (wire : List Descriptor) → IfSome (received_of c wire) (λ (c' : Channel). c'.start ≡ c.start)
    of [] = tt
    of (f ∷ fs) = refl

updated_start : (c : Channel) → IfSome (update_fc c) (λ (c' : Channel). c'.start ≡ c.start)
updated_start c = none_if c.start (same_counters c.left (unspent c.start (c.wire ++ c.ingress))) (record { start = c.start; left = unspent c.start (c.wire ++ c.ingress); egress = c.egress; wire = c.wire; ingress = c.ingress }) refl

-- ---- every event

pub event_stays : (w : World) (event : Event) → IfSome (effect w event) (Stays w)
event_stays w (Submit function bytes) = agents_stay w (submitted w.agents function bytes) (emitted_boxes w.agents (Function function) _)
event_stays w (Tick function) = agents_stay w (ticked w.agents function) (emitted_boxes w.agents (Function function) _)
event_stays w (Mmio domain access) = agents_stay w (accessed w.agents domain access) (emitted_boxes w.agents (Host domain) _)
event_stays w (Enter origin class) = entered_stays w origin class (sender_of w.tree.links (link_of origin)) (eligible class (waiting_of w.agents.outboxes origin))
event_stays w (Pass port class) = pass_stays w port class (misrouting w port class) (misrouting_starts w class (misrouted_among w.tree w.routes w.channels w.ports port class))
event_stays w (Send direction class) = step_stays w (sender_of w.tree.links direction) (send class) (send_start class)
event_stays w (Take direction) = step_stays w (sender_of w.tree.links direction) deliver deliver_start
event_stays w (Credit direction) = step_stays w (sender_of w.tree.links direction) update_fc updated_start
event_stays w (Root class) = at_host_stays w class (taken w to_host class) (taken_starts w class (sender_of w.tree.links to_host))
event_stays w (Arrive function class) =
    arrive_stays w _ (arrived w function (taken w (to_function function) class)) (arrived_stays w function (taken w (to_function function) class) (taken_starts w class (sender_of w.tree.links (to_function function))))

pub steps_stay : (w v : World) (event : Event) (outcome : Outcome) → StepsTo w event outcome v → Stays w v
steps_stay w v event Moved step = subst (λ (o : Option World). IfSome o (Stays w)) step (event_stays w event)
steps_stay w v event Idle step = subst (Stays w) (sym step.2) (same_stays w)
steps_stay w v event (Refused fault) step = subst (Stays w) (sym step.1) (same_stays w)
steps_stay w v event NoMemory step = subst (Stays w) (sym step.2) (same_stays w)
