-- At a quiet station no event moves anything, nor does an event that finds nothing to take.
use Rattle.std.proofs.Common.{◌≡◌, ℕ, Bool, true, false, cond, ◌&&◌, List, [], ◌∷◌, Option, Some, None, refl, ap, ◌∙◌, subst}
use Rattle.std.specs.Prelude.{All, is_none, is_some, map, slice_get, slice_index_or, option_map}
use Rattle.std.specs.Option.{option_and_then}
use Rattle.std.proofs.lemmas.List.Elements.{All-append, All-cons, All-nil}
use Rattle.fab_types.specs.declared.class.Class.{Class}
use Rattle.fab_types.specs.declared.class.Class.TheVariants.{Posted, NonPosted, Completion}
use Rattle.fab_types.specs.declared.outcome.Outcome.TheVariants.{Idle}
use Rattle.fab_types.specs.declared.place.Direction.{Direction}
use Rattle.fab_types.specs.declared.origin.Origin.{Origin}
use Rattle.fab_types.specs.declared.origin.Origin.TheVariants as origin
use Rattle.frame_log.specs.Descriptor.{Descriptor}
use Rattle.bridge.specs.Bridges.{Routes}
use Rattle.domains.specs.Agents.{waiting_of}
use Rattle.link.specs.Channels.{Channel, deliver, received_of, send, sent_on, update_fc}
use Rattle.link.specs.Quiet.{is_quiet as is_quiet_channel, none_eligible}
use Rattle.port.specs.Configs.{Config}
use Rattle.lane.specs.Lanes.{eligible}
use Rattle.domains.specs.Domains.{place_of_function}
use Rattle.topology.specs.Links.{sender_of}
use Rattle.topology.specs.declared.nodes.LinkEnd.{LinkEnd}
use Rattle.interconnect.specs.Misrouted.{misrouted_from, misrouted_number, misrouted_of}
use Rattle.interconnect.specs.declared.misrouted.Misrouted.{Misrouted}
use Rattle.interconnect.specs.Moves.{channel_at, on_channel, with_channel}
use Rattle.interconnect.specs.Passes.{index_of, input_number, input_of, no_place, no_port}
use Rattle.interconnect.specs.Quiet.{is_quiet_at, none_received_at}
use Rattle.fabric_core.specs.Aliens.{to_function, to_host}
use Rattle.fabric_core.specs.Isolation.{home, home_oldest, home_passed, home_sent, home_travelling}
use Rattle.fabric_core.specs.Arrivals.{arrived, arrived_at_host, taken, taken_at}
use Rattle.fabric_core.specs.Events.{StepsTo, effect, entered_at, link_of, refusal, takes_packet}
use Rattle.fabric_core.specs.Misrouting.{misrouting_by, passed_unless}
use Rattle.fabric_core.specs.Passing.{passed, passed_number, site_at}
use Rattle.fabric_core.specs.EligibleClasses.{leaves}
use Rattle.fabric_core.specs.Stations.{classes, events_at, is_quiet, taking}
use Rattle.fabric_core.specs.World.{World, with_channels}
use Rattle.fabric_core.specs.declared.event.Event.{Event}
use Rattle.fabric_core.specs.declared.station.Station.{Station}
use Rattle.fabric_core.specs.declared.station.Station.TheVariants as station

-- ---- tests that nothing passes

none_is : {X : Type 0} (o : Option X) → is_none o ≡ true → o ≡ None
none_is None h = refl
none_is (Some x) h = absurd cc

both : (a b : Bool) → (a && b) ≡ true → (a ≡ true) × (b ≡ true)
both true b h = (refl, h)
both false b h = absurd cc

-- no packet of a class may leave
eligible_none : (waiting : List Descriptor) → none_eligible waiting ≡ true → (class : Class) → eligible class waiting ≡ None
eligible_none waiting h Posted = none_is (eligible Posted waiting) (both (is_none (eligible Posted waiting)) _ h).0
eligible_none waiting h NonPosted = none_is (eligible NonPosted waiting) (both (is_none (eligible NonPosted waiting)) _ (both (is_none (eligible Posted waiting)) _ h).1).0
eligible_none waiting h Completion = none_is (eligible Completion waiting) (both (is_none (eligible NonPosted waiting)) _ (both (is_none (eligible Posted waiting)) _ h).1).1

none_of : {X Y : Type 0} (f : X → Y) (o : Option X) → option_map f o ≡ None → o ≡ None
none_of f None h = refl
none_of f (Some x) h = absurd cc

taken_none : (channels : List (List Channel)) (end : Option LinkEnd) → none_received_at channels end ≡ true → (class : Class) → taken_at channels class end ≡ None
taken_none channels None h class = refl
taken_none channels (Some end) h class = rw (eligible_none (channel_at channels end).ingress h class) refl

misrouted_from_none : (routes : Routes) (channels : List (List Channel)) (class : Class) (config : Config) (node : ℕ) (input : Option LinkEnd) → taken_at channels class input ≡ None
    → misrouted_from routes channels class config node input ≡ None
misrouted_from_none routes channels class config node None h = refl
misrouted_from_none routes channels class config node (Some input) h = ap (misrouted_of routes node input config) (none_of _ (eligible class (channel_at channels input).ingress) h)

-- ---- directions

received_none : (c : Channel) (wire : List Descriptor) → is_none (slice_get wire 0) ≡ true → received_of c wire ≡ None
received_none c [] h = refl
received_none c (frame ∷ frames) h = absurd cc

-- nothing can happen on a quiet direction
record IsStillChannel (c : Channel) : Type 0 where
  send : (class : Class) → send class c ≡ None
  deliver : deliver c ≡ None
  update_fc : update_fc c ≡ None

still_channel : (c : Channel) → is_quiet_channel c ≡ true → IsStillChannel c
still_channel c h =
    let none = both (none_eligible c.egress) _ h in
    let others = both (is_none (slice_get c.wire 0)) (is_none (update_fc c)) none.1 in record {
      send = λ class. ap (sent_on c) (eligible_none c.egress none.0 class);
      deliver = received_none c c.wire others.0;
      update_fc = none_is (update_fc c) others.1;
    }

on_none : (channels : List (List Channel)) (end : Option LinkEnd) (step : Channel → Option Channel) → ((at : LinkEnd) → end ≡ Some at → step (channel_at channels at) ≡ None)
    → on_channel channels end step ≡ None
on_none channels None step h = refl
on_none channels (Some end) step h = ap (option_map (with_channel channels end)) (h end refl)

still_at : (channels : List (List Channel)) (end : Option LinkEnd) → is_quiet_at channels end ≡ true → (at : LinkEnd) → end ≡ Some at → IsStillChannel (channel_at channels at)
still_at channels None h at e = absurd cc
still_at channels (Some end) h at e = still_channel (channel_at channels at) (subst (λ (x : Option LinkEnd). is_quiet_at channels x ≡ true) e h)

-- ---- each event

-- an event that moves nothing and is no begin
abbrev IsStill : World → Event → Type 0
IsStill w event = (effect w event ≡ None) × (refusal w event ≡ None)

enters_none : (w : World) (origin : Origin) (class : Class) → eligible class (waiting_of w.agents.outboxes origin) ≡ None → IsStill w (Event.Enter origin class)
enters_none w origin class h = (ap (option_and_then (entered_at w origin class (sender_of w.tree.links (link_of origin)))) h, refl)

still_enter : (w : World) (origin : Origin) → none_eligible (waiting_of w.agents.outboxes origin) ≡ true → (class : Class) → IsStill w (Event.Enter origin class)
still_enter w origin h class = enters_none w origin class (eligible_none (waiting_of w.agents.outboxes origin) h class)

module _ (w : World) (class : Class) where
  misrouted_none : (i : Option ℕ) → taken_at w.channels class (input_number w.tree.places i) ≡ None → misrouted_number w.tree w.routes w.channels w.ports class i ≡ None
  misrouted_none None h = refl
  misrouted_none (Some i) h = misrouted_from_none w.routes w.channels class (slice_index_or w.ports i no_port).config (slice_index_or w.tree.places i no_place).node (slice_index_or w.tree.places i no_place).input h

  passed_none : (i : Option ℕ) → taken_at w.channels class (input_number w.tree.places i) ≡ None → passed_number w class i ≡ None
  passed_none None h = refl
  passed_none (Some i) h =
      let place = slice_index_or w.tree.places i no_place in
      ap (option_and_then (passed w (site_at w i place) class)) h

passes_none : (w : World) (port : ℕ) (class : Class) → taken_at w.channels class (input_of w.tree.places port) ≡ None → IsStill w (Event.Pass port class)
passes_none w port class h =
    let i = index_of w.tree.places port in
    (ap (λ (misrouted : Option Misrouted). passed_unless w port class (misrouting_by w class misrouted)) (misrouted_none w class i h) ∙ passed_none w class i h, refl)

still_pass : (w : World) (port : ℕ) → none_received_at w.channels (input_of w.tree.places port) ≡ true → (class : Class) → IsStill w (Event.Pass port class)
still_pass w port h class = passes_none w port class (taken_none w.channels (input_of w.tree.places port) h class)

still_link : (w : World) (direction : Direction) → is_quiet_at w.channels (sender_of w.tree.links direction) ≡ true
    → (step : Channel → Option Channel) → ((c : Channel) → IsStillChannel c → step c ≡ None) → option_map (with_channels w) (on_channel w.channels (sender_of w.tree.links direction) step) ≡ None
still_link w direction h step none =
    let end = sender_of w.tree.links direction in
    ap (option_map (with_channels w)) (on_none w.channels end step (λ at is. none (channel_at w.channels at) (still_at w.channels end h at is)))

host_takes_none : (w : World) (class : Class) → taken_at w.channels class (sender_of w.tree.links to_host) ≡ None → IsStill w (Event.Root class)
host_takes_none w class h = (ap (arrived_at_host w class) h, refl)

still_at_host : (w : World) → none_received_at w.channels (sender_of w.tree.links to_host) ≡ true → (class : Class) → IsStill w (Event.Root class)
still_at_host w h class = host_takes_none w class (taken_none w.channels (sender_of w.tree.links to_host) h class)

either_none : (b : Bool) (o : Option World) → o ≡ None → cond b o None ≡ None
either_none true o h = h
either_none false o h = refl

arrives_none : (w : World) (function : ℕ) (class : Class) → taken_at w.channels class (sender_of w.tree.links (to_function function)) ≡ None → IsStill w (Event.Arrive function class)
arrives_none w function class h = (either_none (is_some (place_of_function w.agents.domains function)) _ (ap (arrived w function) h), refl)

still_arrive : (w : World) (function : ℕ) → none_received_at w.channels (sender_of w.tree.links (to_function function)) ≡ true → (class : Class) → IsStill w (Event.Arrive function class)
still_arrive w function h class = arrives_none w function class (taken_none w.channels (sender_of w.tree.links (to_function function)) h class)

-- ---- each station

abbrev IsIdle : World → Event → Type 0
IsIdle w event = StepsTo w event Idle w

idle : (w : World) (event : Event) → IsStill w event → IsIdle w event
idle w event still = (still.0, still.1, refl)

for_each : (w : World) (event : Class → Event) → ((class : Class) → IsStill w (event class)) → All (IsIdle w) (map event classes)
for_each w event still =
    let P = IsIdle w in
    All-cons P (event Posted) (event NonPosted ∷ event Completion ∷ []) (idle w (event Posted) (still Posted))
    (All-cons P (event NonPosted) (event Completion ∷ []) (idle w (event NonPosted) (still NonPosted)) (All-cons P (event Completion) [] (idle w (event Completion) (still Completion)) (All-nil P)))

pub quiet_idle : (w : World) (s : Station) → is_quiet w s ≡ true → All (λ event. StepsTo w event Idle w) (events_at s)
quiet_idle w (station.FunctionOutbox function) h = for_each w (Event.Enter (origin.Function function)) (still_enter w (origin.Function function) h)
quiet_idle w (station.HostOutbox domain) h = for_each w (Event.Enter (origin.Host domain)) (still_enter w (origin.Host domain) h)
quiet_idle w (station.Port port) h = for_each w (Event.Pass port) (still_pass w port h)
quiet_idle w (station.Link direction) h =
    let sent : (class : Class) → IsStill w (Event.Send direction class) = λ class. (still_link w direction h (send class) (λ c still. still.send class), refl) in
    let P = IsIdle w in
    All-append P (map (Event.Send direction) classes) (Event.Take direction ∷ Event.Credit direction ∷ []) (for_each w (Event.Send direction) sent)
    (All-cons P (Event.Take direction) (Event.Credit direction ∷ []) (idle w (Event.Take direction) (still_link w direction h deliver (λ c still. still.deliver), refl))
    (All-cons P (Event.Credit direction) [] (idle w (Event.Credit direction) (still_link w direction h update_fc (λ c still. still.update_fc), refl)) (All-nil P)))
quiet_idle w station.Host h = for_each w Event.Root (still_at_host w h)
quiet_idle w (station.Function function) h = for_each w (Event.Arrive function) (still_arrive w function h)

-- ---- an event that finds nothing to take is of no domain

-- what came into a port
none_passed : (w : World) (class : Class) (i : Option ℕ) → option_and_then (home_passed w class) i ≡ None → taken_at w.channels class (input_number w.tree.places i) ≡ None
none_passed w class None h = refl
none_passed w class (Some i) h = none_of _ (taken_at w.channels class (slice_index_or w.tree.places i no_place).input) h

-- of an end, if there is one
at_none : (channels : List (List Channel)) (end : Option LinkEnd) (home : LinkEnd → Option ℕ) (step : Channel → Option Channel) → ((at : LinkEnd) → home at ≡ None → step (channel_at channels at) ≡ None)
    → option_and_then home end ≡ None → on_channel channels end step ≡ None
at_none channels None home step none h = refl
at_none channels (Some end) home step none h = ap (option_map (with_channel channels end)) (none end h)

travels_none : (c : Channel) (wire : List Descriptor) → home_oldest wire ≡ None → received_of c wire ≡ None
travels_none c [] h = refl
travels_none c (frame ∷ frames) h = absurd cc

homeless : (w : World) (event : Event) → takes_packet event ≡ true → home w event ≡ None → IsStill w event
homeless w (Event.Submit function bytes) takes h = absurd cc
homeless w (Event.Tick function) takes h = absurd cc
homeless w (Event.Mmio domain access) takes h = absurd cc
homeless w (Event.Enter origin class) takes h = enters_none w origin class (none_of _ (eligible class (waiting_of w.agents.outboxes origin)) h)
homeless w (Event.Pass port class) takes h = passes_none w port class (none_passed w class (index_of w.tree.places port) h)
homeless w (Event.Send direction class) takes h =
    (ap (option_map (with_channels w)) (at_none w.channels (sender_of w.tree.links direction) (home_sent w class) (send class) (λ at none. ap (sent_on (channel_at w.channels at)) (none_of _ (eligible class (channel_at w.channels at).egress) none)) h), refl)
homeless w (Event.Take direction) takes h =
    (ap (option_map (with_channels w)) (at_none w.channels (sender_of w.tree.links direction) (home_travelling w) deliver (λ at none. travels_none (channel_at w.channels at) (channel_at w.channels at).wire none) h), refl)
homeless w (Event.Credit direction) takes h = absurd cc
homeless w (Event.Root class) takes h = host_takes_none w class (none_of _ (taken w to_host class) h)
homeless w (Event.Arrive function class) takes h = arrives_none w function class (none_of _ (taken w (to_function function) class) h)

pub homeless_idle : (w : World) (event : Event) → takes_packet event ≡ true → home w event ≡ None → StepsTo w event Idle w
homeless_idle w event takes h = idle w event (homeless w event takes h)

-- ---- of which classes a packet may leave

nobody : (home : Option ℕ) → is_some home ≡ false → home ≡ None
nobody None h = refl
nobody (Some domain) h = absurd cc

takes_there : (s : Station) (class : Class) → takes_packet (taking s class) ≡ true
takes_there (station.FunctionOutbox function) class = refl
takes_there (station.HostOutbox domain) class = refl
takes_there (station.Port port) class = refl
takes_there (station.Link direction) class = refl
takes_there station.Host class = refl
takes_there (station.Function function) class = refl

pub none_leaves : (w : World) (s : Station) (class : Class) → leaves w s class ≡ false → StepsTo w (taking s class) Idle w
none_leaves w s class h = homeless_idle w (taking s class) (takes_there s class) (nobody (home w (taking s class)) h)
