-- Where all that a station looks at stays, nothing moves at it that couldn't before.
use Rattle.std.proofs.Common.{◌≡◌, ℕ, ◌==◌, Bool, true, false, cond, List, [], ◌∷◌, map, get_or, Option, Some, None, refl, sym, ap, ◌∙◌, arith}
use Rattle.std.specs.Prelude.{All, Contains, is_some, option_map}
use Rattle.std.specs.Option.{option_and_then}
use Rattle.std.proofs.Math.ListN.{get_or-map}
use Rattle.std.proofs.lemmas.List.Elements.{All-append, All-cons, All-contains, All-nil}
use Rattle.fab_types.specs.declared.class.Class.{Class}
use Rattle.fab_types.specs.declared.class.Class.TheVariants.{Posted, NonPosted, Completion}
use Rattle.fab_types.specs.Id.{bus_of, host_of}
use Rattle.fab_types.specs.declared.head.Header.{Header}
use Rattle.fab_types.specs.declared.head.Header.TheVariants as header
use Rattle.fab_types.specs.declared.head.Parties.{Parties}
use Rattle.fab_types.specs.declared.head.Parties.TheVariants.{Upward, Downward, Answer}
use Rattle.fab_types.specs.declared.origin.Origin.{Origin}
use Rattle.fab_types.specs.declared.origin.Origin.TheVariants as origin
use Rattle.fab_types.specs.declared.place.Direction.{Direction}
use Rattle.frame_log.specs.Descriptor.{Descriptor}
use Rattle.domains.specs.Agents.{waiting_of}
use Rattle.domains.specs.Domains.{place_of_function}
use Rattle.lane.specs.Lanes.{eligible}
use Rattle.link.specs.Channels.{Channel, deliver, is_full, send, update_fc}
use Rattle.bridge.specs.Bridges.{Routes}
use Rattle.port.specs.Configs.{Config}
use Rattle.port.specs.Courses.{course_of}
use Rattle.port.specs.declared.course.Forwarding.{Forwarding}
use Rattle.port.specs.declared.course.Forwarding.TheVariants.{To, Stop, NoCase}
use Rattle.topology.specs.Links.{sender_of}
use Rattle.topology.specs.Topologies.{Tree}
use Rattle.topology.specs.declared.nodes.LinkEnd.{LinkEnd}
use Rattle.topology.specs.declared.places.PortPlace.{PortPlace}
use Rattle.interconnect.specs.Moves.{channel_at, on_channel, with_channel}
use Rattle.interconnect.specs.Passes.{index_of, input_number, no_place, no_port}
use Rattle.switch_output.specs.Vetted.{may_go_on}
use Rattle.fabric_core.specs.declared.event.Event.{Event}
use Rattle.fabric_core.specs.declared.event.Event.TheVariants.{Credit, Send, Take}
use Rattle.fabric_core.specs.declared.station.Station.{Station}
use Rattle.fabric_core.specs.declared.station.Station.TheVariants as station
use Rattle.fabric_core.specs.Events.{effect, enter, entered_at, link_of}
use Rattle.fabric_core.specs.Misrouting.{pass}
use Rattle.fabric_core.specs.Passing.{Site, answer_waits, is_full_at, output_end, passed, passed_at, passed_by, passed_number, port_number, site_at, turned}
use Rattle.fabric_core.specs.Arrivals.{Taken, arrive, arrived, from_host, relayed, arrive_at_host, arrived_at_host, arrived_at_host_by, taken, taken_at, taken_from, to_function, to_host}
use Rattle.received.specs.Received.{received_at_host, received_by_host, request_at_host}
use Rattle.fabric_core.specs.Soundness.{config_of}
use Rattle.fabric_core.specs.Stations.{classes, events_at, taking}
use Rattle.fabric_core.specs.Still.{IsIdleAt}
use Rattle.sweeps.specs.Waking.{port_node, reach_of}
use Rattle.fabric_core.specs.World.{World, with_channels}

-- ---- tests that let nothing through

none_of : {X Y : Type 0} (f : X → Y) (o : Option X) → option_map f o ≡ None → o ≡ None
none_of f None h = refl
none_of f (Some x) h = absurd cc

unless_full : {X : Type 0} (full : Bool) (x : X) → cond full None (Some x) ≡ None → full ≡ true
unless_full true x h = refl
unless_full false x h = absurd cc

unless_full_either : {X : Type 0} (full may : Bool) (x y : X) → cond full None (cond may (Some x) (Some y)) ≡ None → full ≡ true
unless_full_either true may x y h = refl
unless_full_either false true x y h = absurd cc
unless_full_either false false x y h = absurd cc

none_if_full : {X : Type 0} (full : Bool) (o : Option X) → full ≡ true → cond full None o ≡ None
none_if_full full o is = ap (λ (b : Bool). cond b None o) is

-- the outbox that a station is
abbrev pub box_of : Station → Option Origin
box_of (station.FunctionOutbox function) = Some (origin.Function function)
box_of (station.HostOutbox domain) = Some (origin.Host domain)
box_of s = None

-- what a sender has no place for it has none for still
abbrev pub StaysFull : World → World → LinkEnd → Type 0
StaysFull w v end = (class : Class) → is_full class (channel_at w.channels end) ≡ true → is_full class (channel_at v.channels end) ≡ true

abbrev pub SameIngress : World → World → LinkEnd → Type 0
SameIngress w v end = (channel_at v.channels end).ingress ≡ (channel_at w.channels end).ingress

-- what a station looks at stays
pub record Sees (s : Station) (w v : World) : Type 0 where
  pub takes : (end : LinkEnd) → (reach_of w.tree s).takes ≡ Some end → SameIngress w v end
  pub sends : (end : LinkEnd) → (reach_of w.tree s).sends ≡ Some end → channel_at v.channels end ≡ channel_at w.channels end
  pub puts : (end : LinkEnd) → (reach_of w.tree s).puts ≡ Some end.node → StaysFull w v end
  pub box : (o : Origin) → box_of s ≡ Some o → waiting_of v.agents.outboxes o ≡ waiting_of w.agents.outboxes o

-- what no event changes
pub record SamePlan (w v : World) : Type 0 where
  pub tree : v.tree ≡ w.tree
  pub routes : v.routes ≡ w.routes
  pub configs : map config_of v.ports ≡ map config_of w.ports
  pub functions : (function : ℕ) → place_of_function v.agents.domains function ≡ place_of_function w.agents.domains function
  pub turns_before : (port : ℕ) (class : Class) → pass w port class ≡ turned w port class
  pub turns_after : (port : ℕ) (class : Class) → pass v port class ≡ turned v port class

abbrev Idle : World → Event → Type 0
Idle w event = effect w event ≡ None

taking_at : (s : Station) (class : Class) → Contains (events_at s) (taking s class)
taking_at s Posted = (0, omega arith, refl)
taking_at s NonPosted = (1, omega arith, refl)
taking_at s Completion = (2, omega arith, refl)

module _ (w v : World) where
  -- ---- outboxes

  module _ (o : Origin) (class : Class) where
    entered_stays : (found : Option LinkEnd) (t : Descriptor × List Descriptor) → ((end : LinkEnd) → found ≡ Some end → StaysFull w v end) → entered_at w o class found t ≡ None → entered_at v o class found t ≡ None
    entered_stays None t full idle = refl
    entered_stays (Some end) t full idle = none_if_full (is_full class (channel_at v.channels end)) _ (full end refl class (unless_full (is_full class (channel_at w.channels end)) _ idle))

    enter_stays_by : (found : Option LinkEnd) (t : Option (Descriptor × List Descriptor)) → ((end : LinkEnd) → found ≡ Some end → StaysFull w v end) → option_and_then (entered_at w o class found) t ≡ None → option_and_then (entered_at v o class found) t ≡ None
    enter_stays_by found None full idle = refl
    enter_stays_by found (Some t) full idle = entered_stays found t full idle

    enter_stays : v.tree ≡ w.tree → waiting_of v.agents.outboxes o ≡ waiting_of w.agents.outboxes o → ((end : LinkEnd) → sender_of w.tree.links (link_of o) ≡ Some end → StaysFull w v end) → enter w o class ≡ None → enter v o class ≡ None
    enter_stays tree waits full idle =
        let found = sender_of w.tree.links (link_of o) in
        ap (λ (t : Tree). option_and_then (entered_at v o class (sender_of t.links (link_of o))) (eligible class (waiting_of v.agents.outboxes o))) tree
        ∙ (ap (λ (frames : List Descriptor). option_and_then (entered_at v o class found) (eligible class frames)) waits ∙ enter_stays_by found (eligible class (waiting_of w.agents.outboxes o)) full idle)

  -- ---- directions

  step_stays_by : (found : Option LinkEnd) (step : Channel → Option Channel) → ((end : LinkEnd) → found ≡ Some end → channel_at v.channels end ≡ channel_at w.channels end) → option_map (with_channels w) (on_channel w.channels found step) ≡ None
      → option_map (with_channels v) (on_channel v.channels found step) ≡ None
  step_stays_by None step same idle = refl
  step_stays_by (Some end) step same idle =
      let none : step (channel_at w.channels end) ≡ None = none_of (with_channel w.channels end) _ (none_of (with_channels w) _ idle) in
      ap (λ (o : Option Channel). option_map (with_channels v) (option_map (with_channel v.channels end) o)) (ap step (same end refl) ∙ none)

  step_stays : v.tree ≡ w.tree → (direction : Direction) (step : Channel → Option Channel) → ((end : LinkEnd) → sender_of w.tree.links direction ≡ Some end → channel_at v.channels end ≡ channel_at w.channels end)
      → option_map (with_channels w) (on_channel w.channels (sender_of w.tree.links direction) step) ≡ None → option_map (with_channels v) (on_channel v.channels (sender_of v.tree.links direction) step) ≡ None
  step_stays tree direction step same idle =
      ap (λ (t : Tree). option_map (with_channels v) (on_channel v.channels (sender_of t.links direction) step)) tree ∙ step_stays_by (sender_of w.tree.links direction) step same idle

  -- ---- what was taken

  -- of what was taken, if anything was, nothing comes; so it is where as much waits in another world
  taken_stays : (class : Class) (found : Option LinkEnd) (f g : Taken → Option World) → ((end : LinkEnd) → found ≡ Some end → SameIngress w v end)
      → ((end : LinkEnd) (t : Descriptor × List Descriptor) → f (taken_from w.channels end t) ≡ None → g (taken_from v.channels end t) ≡ None)
      → option_and_then f (taken_at w.channels class found) ≡ None → option_and_then g (taken_at v.channels class found) ≡ None
  taken_stays class None f g same each idle = refl
  taken_stays class (Some end) f g same each idle =
      ap (λ (frames : List Descriptor). option_and_then g (option_map (taken_from v.channels end) (eligible class frames))) (same end refl) ∙ by (eligible class (channel_at w.channels end).ingress) idle
    where
      by : (o : Option (Descriptor × List Descriptor)) → option_and_then f (option_map (taken_from w.channels end) o) ≡ None → option_and_then g (option_map (taken_from v.channels end) o) ≡ None
      by None idle = refl
      by (Some t) idle = each end t idle

  -- ---- at the host

  relay_stays : (class : Class) (one other : Taken) (found : Option LinkEnd) → ((end : LinkEnd) → found ≡ Some end → StaysFull w v end) → relayed w one class found ≡ None → relayed v other class found ≡ None
  relay_stays class one other None full idle = refl
  relay_stays class one other (Some end) full idle = none_if_full (is_full class (channel_at v.channels end)) _ (full end refl class (unless_full (is_full class (channel_at w.channels end)) _ idle))

  -- of the two whichever it is
  of_either : {X : Type 0} (P : X → Type 0) (b : Bool) (x y : X) → P x → P y → P (cond b x y)
  of_either P true x y first second = first
  of_either P false x y first second = second

  module _ (tree : v.tree ≡ w.tree) (class : Class) (one other : Taken) (full : (end : LinkEnd) → sender_of w.tree.links from_host ≡ Some end → StaysFull w v end) where
    sent_down_stays : relayed w one class (sender_of w.tree.links from_host) ≡ None → relayed v other class (sender_of v.tree.links from_host) ≡ None
    sent_down_stays idle = ap (λ (t : Tree). relayed v other class (sender_of t.links from_host)) tree ∙ relay_stays class one other (sender_of w.tree.links from_host) full idle

    request_stays : (parties : Parties) → arrived_at_host_by w class one (request_at_host parties) ≡ None → arrived_at_host_by v class other (request_at_host parties) ≡ None
    request_stays (Upward function) idle = absurd cc
    request_stays (Downward function) idle = absurd cc
    request_stays (Answer answerer addressee) idle = absurd cc

    at_host_stays : (domain : ℕ) (parties : Parties) (head : Header) → arrived_at_host_by w class one (received_by_host domain parties head) ≡ None → arrived_at_host_by v class other (received_by_host domain parties head) ≡ None
    at_host_stays domain parties header.Malformed = λ idle. absurd cc
    at_host_stays domain parties (header.Memory requester address_type address) = request_stays parties
    at_host_stays domain parties (header.OtherRequest requester) = request_stays parties
    at_host_stays domain parties (header.Completion target relaxed_ordering) =
        of_either (λ received. arrived_at_host_by w class one received ≡ None → arrived_at_host_by v class other received ≡ None) (bus_of target == 0) _ _
        (of_either (λ received. arrived_at_host_by w class one received ≡ None → arrived_at_host_by v class other received ≡ None) (target == host_of domain) _ _ (λ idle. absurd cc) (λ idle. absurd cc)) sent_down_stays

  -- what the host takes
  as_taken : (x : World) (class : Class) (o : Option Taken) → arrived_at_host x class o ≡ option_and_then (λ (t : Taken). arrived_at_host_by x class t (received_at_host t.frame)) o
  as_taken x class None = refl
  as_taken x class (Some t) = refl

  host_stays : v.tree ≡ w.tree → (class : Class) → ((end : LinkEnd) → sender_of w.tree.links to_host ≡ Some end → SameIngress w v end) → ((end : LinkEnd) → sender_of w.tree.links from_host ≡ Some end → StaysFull w v end) → arrive_at_host w class ≡ None → arrive_at_host v class ≡ None
  host_stays tree class same full idle =
      let found = sender_of w.tree.links to_host in
      ap (λ (t : Tree). arrived_at_host v class (taken_at v.channels class (sender_of t.links to_host))) tree
      ∙ (as_taken v class (taken_at v.channels class found)
      ∙ taken_stays class found (λ (t : Taken). arrived_at_host_by w class t (received_at_host t.frame)) (λ (t : Taken). arrived_at_host_by v class t (received_at_host t.frame)) same
      (λ end t. at_host_stays tree class (taken_from w.channels end t) (taken_from v.channels end t) full t.0.domain t.0.head.parties t.0.head.header) (sym (as_taken w class (taken_at w.channels class found)) ∙ idle))

  -- ---- at functions

  arrive_by : (class : Class) (function : ℕ) (found : Option LinkEnd) (known : Bool) → ((end : LinkEnd) → found ≡ Some end → SameIngress w v end) → cond known (arrived w function (taken_at w.channels class found)) None ≡ None
      → cond known (arrived v function (taken_at v.channels class found)) None ≡ None
  arrive_by class function found false same idle = refl
  arrive_by class function None true same idle = refl
  arrive_by class function (Some end) true same idle =
      ap (λ (frames : List Descriptor). arrived v function (option_map (taken_from v.channels end) (eligible class frames))) (same end refl)
      ∙ ap (λ (o : Option (Descriptor × List Descriptor)). arrived v function (option_map (taken_from v.channels end) o)) (none_of (taken_from w.channels end) _ (none_of _ _ idle))

  arrive_stays : v.tree ≡ w.tree → (class : Class) (function : ℕ) → place_of_function v.agents.domains function ≡ place_of_function w.agents.domains function
      → ((end : LinkEnd) → sender_of w.tree.links (to_function function) ≡ Some end → SameIngress w v end) → arrive w function class ≡ None → arrive v function class ≡ None
  arrive_stays tree class function home same idle =
      ap (λ (place : Option ℕ). cond (is_some place) (arrived v function (taken v (to_function function) class)) None) home
      ∙ (ap (λ (t : Tree). cond (is_some (place_of_function w.agents.domains function)) (arrived v function (taken_at v.channels class (sender_of t.links (to_function function)))) None) tree
      ∙ arrive_by class function (sender_of w.tree.links (to_function function)) (is_some (place_of_function w.agents.domains function)) same idle)

  -- ---- at ports

  waits_still : (site : Site) (class : Class) → ((end : LinkEnd) → end.node ≡ site.node → StaysFull w v end) → answer_waits w site class ≡ true → answer_waits v site class ≡ true
  waits_still site Posted full waits = absurd cc
  waits_still site NonPosted full waits = full (output_end site site.config.own) refl Completion waits
  waits_still site Completion full waits = absurd cc

  course_stays : (site : Site) (class : Class) (one other : Taken) (course : Forwarding) → ((end : LinkEnd) → end.node ≡ site.node → StaysFull w v end) → passed_by w site class one course ≡ None → passed_by v site class other course ≡ None
  course_stays site class one other (To output) full idle =
      none_if_full (is_full_at v site output class) _ (full (output_end site output) refl class (unless_full_either (is_full_at w site output class) (may_go_on w.routes.ports one.frame) _ _ idle))
  course_stays site class one other (Stop report) full idle = none_if_full (answer_waits v site class) _ (waits_still site class full (unless_full (answer_waits w site class) _ idle))
  course_stays site class one other NoCase full idle = absurd cc

  passed_stays : v.routes ≡ w.routes → (site : Site) (class : Class) (one other : Taken) → other.frame ≡ one.frame → ((end : LinkEnd) → end.node ≡ site.node → StaysFull w v end) → passed w site class one ≡ None → passed v site class other ≡ None
  passed_stays routes site class one other same full idle =
      ap (λ (r : Routes). passed_by v site class other (course_of r site.config other.frame.head)) routes
      ∙ (ap (λ (frame : Descriptor). passed_by v site class other (course_of w.routes site.config frame.head)) same
      ∙ course_stays site class one other (course_of w.routes site.config one.frame.head) full idle)

  same_config : map config_of v.ports ≡ map config_of w.ports → (i : ℕ) → (port_number v i).config ≡ (port_number w i).config
  same_config configs i = sym (get_or-map config_of v.ports i no_port) ∙ (ap (λ (cs : List Config). get_or cs i (config_of no_port)) configs ∙ get_or-map config_of w.ports i no_port)

  module _ (plan : SamePlan w v) (class : Class) where
    place_stays : (i : ℕ) (place : PortPlace) → ((end : LinkEnd) → place.input ≡ Some end → SameIngress w v end) → ((end : LinkEnd) → end.node ≡ place.node → StaysFull w v end) → passed_at w class i place ≡ None → passed_at v class i place ≡ None
    place_stays i place same full idle =
        ap (λ (c : Config). option_and_then (passed v (record { number = i; node = place.node; config = c }) class) (taken_at v.channels class place.input)) (same_config plan.configs i)
        ∙ taken_stays class place.input (passed w (site_at w i place) class) (passed v (site_at w i place) class) same
        (λ end t. passed_stays plan.routes (site_at w i place) class (taken_from w.channels end t) (taken_from v.channels end t) refl full) idle

    number_stays : (o : Option ℕ) → ((end : LinkEnd) → input_number w.tree.places o ≡ Some end → SameIngress w v end) → ((end : LinkEnd) → port_node w.tree.places o ≡ Some end.node → StaysFull w v end)
        → passed_number w class o ≡ None → passed_number v class o ≡ None
    number_stays None same full idle = refl
    number_stays (Some i) same full idle =
        ap (λ (t : Tree). passed_at v class i (get_or t.places i no_place)) plan.tree
        ∙ place_stays i (get_or w.tree.places i no_place) same (λ end node. full end (ap (λ (n : ℕ). Some n) (sym node))) idle

    pass_stays : (port : ℕ) → Sees (station.Port port) w v → pass w port class ≡ None → pass v port class ≡ None
    pass_stays port sees idle =
        plan.turns_after port class
        ∙ (ap (λ (t : Tree). passed_number v class (index_of t.places port)) plan.tree
        ∙ number_stays (index_of w.tree.places port) sees.takes sees.puts (sym (plan.turns_before port class) ∙ idle))

-- ---- each station

for_each : (v : World) (s : Station) → ((class : Class) → Idle v (taking s class)) → All (Idle v) (map (taking s) classes)
for_each v s each =
    All-cons (Idle v) (taking s Posted) (taking s NonPosted ∷ taking s Completion ∷ []) (each Posted)
    (All-cons (Idle v) (taking s NonPosted) (taking s Completion ∷ []) (each NonPosted) (All-cons (Idle v) (taking s Completion) [] (each Completion) (All-nil (Idle v))))

module _ (w v : World) (plan : SamePlan w v) where
  was : (s : Station) (event : Event) → IsIdleAt w s → Contains (events_at s) event → Idle w event
  was s event idle within = All-contains (Idle w) (events_at s) event idle within

  pub still_idle : (s : Station) → Sees s w v → IsIdleAt w s → IsIdleAt v s
  still_idle (station.FunctionOutbox function) sees idle =
      let s = station.FunctionOutbox function in
      let o = origin.Function function in
      for_each v s (λ class. enter_stays w v o class plan.tree (sees.box o refl) (λ end is. sees.puts end (ap (option_map (λ (e : LinkEnd). e.node)) is)) (was s (taking s class) idle (taking_at s class)))
  still_idle (station.HostOutbox domain) sees idle =
      let s = station.HostOutbox domain in
      let o = origin.Host domain in
      for_each v s (λ class. enter_stays w v o class plan.tree (sees.box o refl) (λ end is. sees.puts end (ap (option_map (λ (e : LinkEnd). e.node)) is)) (was s (taking s class) idle (taking_at s class)))
  still_idle (station.Port port) sees idle =
      let s = station.Port port in
      for_each v s (λ class. pass_stays w v plan class port sees (was s (taking s class) idle (taking_at s class)))
  still_idle (station.Link direction) sees idle =
      let s = station.Link direction in
      let sent : (class : Class) → Idle v (Send direction class) = λ class. step_stays w v plan.tree direction (send class) sees.sends (was s (Send direction class) idle (taking_at s class)) in
      let received : Idle v (Take direction) = step_stays w v plan.tree direction deliver sees.sends (was s (Take direction) idle (3, omega arith, refl)) in
      let updated : Idle v (Credit direction) = step_stays w v plan.tree direction update_fc sees.sends (was s (Credit direction) idle (4, omega arith, refl)) in
      All-append (Idle v) (map (taking s) classes) (Take direction ∷ Credit direction ∷ []) (for_each v s sent)
      (All-cons (Idle v) (Take direction) (Credit direction ∷ []) received (All-cons (Idle v) (Credit direction) [] updated (All-nil (Idle v))))
  still_idle station.Host sees idle =
      let s = station.Host in
      for_each v s (λ class. host_stays w v plan.tree class sees.takes (λ end is. sees.puts end (ap (option_map (λ (e : LinkEnd). e.node)) is)) (was s (taking s class) idle (taking_at s class)))
  still_idle (station.Function function) sees idle =
      let s = station.Function function in
      for_each v s (λ class. arrive_stays w v plan.tree class function (plan.functions function) sees.takes (was s (taking s class) idle (taking_at s class)))
