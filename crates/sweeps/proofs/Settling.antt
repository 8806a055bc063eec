-- A sweep that moves nothing leaves all as it was, and after it nothing can move.
use Rattle.std.proofs.Common.{◌≡◌, ℕ, ◌⊎◌, inl, inr, false, List, [], ◌∷◌, ◌++◌, map, Option, Some, None, refl, sym, ap, ◌∙◌, subst, arith}
use Rattle.std.specs.Prelude.{All, Contains}
use Rattle.std.specs.List.{flat_map, list_any}
use Rattle.std.proofs.lemmas.Bool.{or_parts}
use Rattle.std.proofs.lemmas.List.Elements.{All-append, All-cons, All-contains, All-head, All-nil, All-tail, Contains-append_left, Contains-append_right, Contains-get_or}
use Rattle.std.proofs.lemmas.List.Sorted.{Contains-permutation}
use Rattle.fab_types.specs.declared.class.Class.{Class}
use Rattle.fab_types.specs.declared.class.Class.TheVariants.{Posted, NonPosted, Completion}
use Rattle.fab_types.specs.declared.faults.begin.BeginFault.{BeginFault}
use Rattle.fab_types.specs.declared.outcome.Outcome.{Outcome}
use Rattle.fab_types.specs.declared.outcome.Outcome.TheVariants.{Idle, Moved, Refused, NoMemory}
use Rattle.fab_types.specs.declared.place.Direction.{Direction}
use Rattle.fab_types.specs.declared.place.Way.{Way}
use Rattle.fab_types.specs.declared.place.Way.TheVariants.{Up, Down}
use Rattle.layout.specs.Laws.{IsPlatform}
use Rattle.platform.specs.Platform.{Platform}
use Rattle.domain.specs.Domains.{DomainView}
use Rattle.topology.proofs.Members.{cases_contained, here, mapped, mapped_from, nothing_contained}
use Rattle.fabric_core.specs.declared.event.Event.{Event}
use Rattle.fabric_core.specs.declared.event.Event.TheVariants.{Take, Credit}
use Rattle.fabric_core.specs.declared.station.Station.{Station}
use Rattle.fabric_core.specs.declared.station.Station.TheVariants as station
use Rattle.fabric_core.specs.Events.{StepsTo, effect, refusal}
use Rattle.fabric_core.specs.Runs.{Run}
use Rattle.fabric_core.specs.Stations.{classes, events_at, others_at, taking}
use Rattle.fabric_core.specs.Still.{IsStationOf, IsStill}
use Rattle.fabric_core.specs.World.{World, world_of}
use Rattle.fabric_core.proofs.progress.Elsewhere.{still_elsewhere}
use Rattle.fabric_core.proofs.progress.Stations.{station_listed}
use Rattle.platform.specs.Rising.{IsRising}
use Rattle.sweeps.specs.Sweeps.{IsSweep, Places, Sweeps, both_ways, host_outbox, is_moved, lacks_memory, stations_of}

-- ---- one event

-- it is no begin, so it is never refused
abbrev pub NeverRefused : Event → Type 0
NeverRefused event = (w : World) → refusal w event ≡ None

unmoved : (w v : World) (event : Event) (outcome : Outcome) → NeverRefused event → StepsTo w event outcome v → is_moved outcome ≡ false → lacks_memory outcome ≡ false → (effect w event ≡ None) × (v ≡ w)
unmoved w v event Moved never step moved memory = absurd cc
unmoved w v event Idle never step moved memory = (step.0, step.2)
unmoved w v event (Refused fault) never step moved memory = let clash : ◌≡◌ {A = Option BeginFault} (Some fault) None = sym step.0 ∙ never w in absurd cc
unmoved w v event NoMemory never step moved memory = absurd cc

taking_never : (s : Station) (class : Class) → NeverRefused (taking s class)
taking_never (station.FunctionOutbox function) class w = refl
taking_never (station.HostOutbox domain) class w = refl
taking_never (station.Port port) class w = refl
taking_never (station.Link direction) class w = refl
taking_never station.Host class w = refl
taking_never (station.Function function) class w = refl

others_never : (s : Station) → All NeverRefused (others_at s)
others_never (station.FunctionOutbox function) = All-nil NeverRefused
others_never (station.HostOutbox domain) = All-nil NeverRefused
others_never (station.Port port) = All-nil NeverRefused
others_never (station.Link direction) = All-cons NeverRefused (Take direction) (Credit direction ∷ []) (λ w. refl) (All-cons NeverRefused (Credit direction) [] (λ w. refl) (All-nil NeverRefused))
others_never station.Host = All-nil NeverRefused
others_never (station.Function function) = All-nil NeverRefused

pub classes_never : (s : Station) → All NeverRefused (map (taking s) classes)
classes_never s =
    All-cons NeverRefused (taking s Posted) (taking s NonPosted ∷ taking s Completion ∷ []) (taking_never s Posted)
    (All-cons NeverRefused (taking s NonPosted) (taking s Completion ∷ []) (taking_never s NonPosted) (All-cons NeverRefused (taking s Completion) [] (taking_never s Completion) (All-nil NeverRefused)))

pub station_never : (s : Station) → All NeverRefused (events_at s)
station_never s = All-append NeverRefused (map (taking s) classes) (others_at s) (classes_never s) (others_never s)

all_never : (ss : List Station) → All NeverRefused (flat_map events_at ss)
all_never [] = All-nil NeverRefused
all_never (s ∷ ss) = All-append NeverRefused (events_at s) (flat_map events_at ss) (station_never s) (all_never ss)

-- ---- a sweep

abbrev pub IsIdle : World → Event → Type 0
IsIdle w event = effect w event ≡ None

pub all_unmoved : (w v : World) (events : List Event) (outcomes : List Outcome) → All NeverRefused events → Run w events outcomes v → list_any is_moved outcomes ≡ false → list_any lacks_memory outcomes ≡ false
    → All (IsIdle w) events × (v ≡ w)
all_unmoved w v [] [] never run moved memory = (All-nil (IsIdle w), run)
all_unmoved w v [] (outcome ∷ outcomes) never run moved memory = absurd run
all_unmoved w v (event ∷ events) [] never run moved memory = absurd run
all_unmoved w v (event ∷ events) (outcome ∷ outcomes) never run moved memory =
    let none = or_parts (is_moved outcome) (list_any is_moved outcomes) moved in
    let enough = or_parts (lacks_memory outcome) (list_any lacks_memory outcomes) memory in
    let first = unmoved w run.0 event outcome (All-head NeverRefused event events never) run.1 none.0 enough.0 in
    let rest = all_unmoved run.0 v events outcomes (All-tail NeverRefused event events never) run.2 none.1 enough.1 in
    (All-cons (IsIdle w) event events first.0 (subst (λ (x : World). All (IsIdle x) events) first.1 rest.0), rest.1 ∙ first.1)

-- ---- what stands in it

within_flat : {X A : Type 0} (f : X → List A) (xs : List X) (x : X) (a : A) → Contains xs x → Contains (f x) a → Contains (flat_map f xs) a
within_flat f [] x a within there = absurd (nothing_contained x within)
within_flat {X = X} {A = A} f (y ∷ ys) x a within there = go (λ rest. within_flat f ys x a rest there) (cases_contained y x ys within)
  where
    go : (Contains ys x → Contains (flat_map f ys) a) → (y ≡ x) ⊎ Contains ys x → Contains (f y ++ flat_map f ys) a
    go behind (inl is) = Contains-append_left (f y) (flat_map f ys) a (subst (λ (z : X). Contains (f z) a) (sym is) there)
    go behind (inr rest) = Contains-append_right (f y) (flat_map f ys) a (behind rest)

-- each element of one of the lists that are joined
all_of_one : {X A : Type 0} (P : A → Type 0) (f : X → List A) (xs : List X) (x : X) → All P (flat_map f xs) → Contains xs x → All P (f x)
all_of_one P f xs x all within k d less = All-contains P (flat_map f xs) _ all (within_flat f xs x _ within (Contains-get_or (f x) k d less))

module _ (p : Places) (domains : List DomainView) where
  abbrev function_outboxes : List Station
  function_outboxes = map station.FunctionOutbox p.functions

  abbrev host_outboxes : List Station
  host_outboxes = map host_outbox domains

  abbrev ports : List Station
  ports = map station.Port p.ports

  abbrev links : List Station
  links = flat_map both_ways p.links

  abbrev functions : List Station
  functions = map station.Function p.functions

  abbrev to_hosts : List Station
  to_hosts = function_outboxes ++ host_outboxes

  abbrev to_ports : List Station
  to_ports = to_hosts ++ ports

  abbrev to_links : List Station
  to_links = to_ports ++ links

  abbrev to_host : List Station
  to_host = to_links ++ (station.Host ∷ [])

  function_in : (s : Station) → Contains functions s → Contains (stations_of p domains) s
  function_in s there = Contains-append_right to_host functions s there

  to_host_in : (s : Station) → Contains to_host s → Contains (stations_of p domains) s
  to_host_in s there = Contains-append_left to_host functions s there

  to_links_in : (s : Station) → Contains to_links s → Contains (stations_of p domains) s
  to_links_in s there = to_host_in s (Contains-append_left to_links (station.Host ∷ []) s there)

  to_ports_in : (s : Station) → Contains to_ports s → Contains (stations_of p domains) s
  to_ports_in s there = to_links_in s (Contains-append_left to_ports links s there)

  to_hosts_in : (s : Station) → Contains to_hosts s → Contains (stations_of p domains) s
  to_hosts_in s there = to_ports_in s (Contains-append_left to_hosts ports s there)

  outbox_in : (s : Station) → Contains function_outboxes s → Contains (stations_of p domains) s
  outbox_in s there = to_hosts_in s (Contains-append_left function_outboxes host_outboxes s there)

  host_in : (s : Station) → Contains host_outboxes s → Contains (stations_of p domains) s
  host_in s there = to_hosts_in s (Contains-append_right function_outboxes host_outboxes s there)

  port_in : (s : Station) → Contains ports s → Contains (stations_of p domains) s
  port_in s there = to_ports_in s (Contains-append_right to_hosts ports s there)

  link_in : (s : Station) → Contains links s → Contains (stations_of p domains) s
  link_in s there = to_links_in s (Contains-append_right to_ports links s there)

  host_is_in : Contains (stations_of p domains) station.Host
  host_is_in = to_host_in station.Host (Contains-append_right to_links (station.Host ∷ []) station.Host (here station.Host []))

way_of_both : (direction : Direction) → Contains (both_ways direction.lower) (station.Link direction)
way_of_both direction = go direction.way refl
  where
    go : (way : Way) → direction.way ≡ way → Contains (both_ways direction.lower) (station.Link direction)
    go Up is = (0, omega arith, ap (λ (way : Way). station.Link (record { lower = direction.lower; way = way })) (sym is))
    go Down is = (1, omega arith, ap (λ (way : Way). station.Link (record { lower = direction.lower; way = way })) (sym is))

module _ (platform : Platform) (events : List Event) (sweep : IsSweep platform (world_of platform).agents.domains events) where
  -- a number of a list, in its rising order
  risen : (numbers rising : List ℕ) (n : ℕ) → IsRising numbers rising → Contains numbers n → Contains rising n
  risen numbers rising n is there = Contains-permutation numbers rising n is.same there

  -- each station of the platform is visited
  visited : (s : Station) → IsStationOf platform s → Contains (stations_of sweep.places (world_of platform).agents.domains) s
  visited (station.FunctionOutbox function) listed =
      outbox_in sweep.places (world_of platform).agents.domains (station.FunctionOutbox function) (mapped station.FunctionOutbox sweep.places.functions function (risen _ _ function sweep.functions listed))
  visited (station.HostOutbox domain) listed =
      let d = mapped_from (λ (d : DomainView). d.share.domain) (world_of platform).agents.domains domain listed in
      host_in sweep.places (world_of platform).agents.domains (station.HostOutbox domain) (subst (λ (n : ℕ). Contains (map host_outbox (world_of platform).agents.domains) (station.HostOutbox n)) d.2 (mapped host_outbox (world_of platform).agents.domains d.0 d.1))
  visited (station.Port port) listed = port_in sweep.places (world_of platform).agents.domains (station.Port port) (mapped station.Port sweep.places.ports port (risen _ _ port sweep.ports listed))
  visited (station.Link direction) listed =
      link_in sweep.places (world_of platform).agents.domains (station.Link direction)
      (within_flat both_ways sweep.places.links direction.lower (station.Link direction) (risen _ _ direction.lower sweep.links listed) (way_of_both direction))
  visited station.Host listed = host_is_in sweep.places (world_of platform).agents.domains
  visited (station.Function function) listed =
      function_in sweep.places (world_of platform).agents.domains (station.Function function) (mapped station.Function sweep.places.functions function (risen _ _ function sweep.functions listed))

  -- none of its events moved anything
  idle_all : (w v : World) → Sweeps events w false v → All (IsIdle w) events × (v ≡ w)
  idle_all w v swept =
      all_unmoved w v events swept.outcomes (subst (All NeverRefused) (sym sweep.all) (all_never (stations_of sweep.places (world_of platform).agents.domains))) swept.run (sym swept.moves) swept.memory

  pub settled : IsPlatform platform → (begun : List Event) (outcomes : List Outcome) (w v : World) → Run (world_of platform) begun outcomes w → Sweeps events w false v → IsStill w × (v ≡ w)
  settled laws begun outcomes w v run swept =
      let idle = idle_all w v swept in
      let all : All (IsIdle w) (flat_map events_at (stations_of sweep.places (world_of platform).agents.domains)) = subst (All (IsIdle w)) sweep.all idle.0 in
      (still_elsewhere w (λ s has. all_of_one (IsIdle w) events_at (stations_of sweep.places (world_of platform).agents.domains) s all (visited s (station_listed platform laws begun outcomes w run s has))), idle.1)
