-- Sweeps: each event of a fabric that moves packets or credits, once, in a fixed order.
use Rattle.std.specs.Prelude.{◌≡◌, ◌⊎◌, ℕ, zero, suc, Bool, true, false, MatchBool, List, [], ◌∷◌, ◌++◌, map}
use Rattle.std.specs.List.{flat_map, list_any}
use Rattle.fab_types.specs.declared.outcome.Outcome.{Outcome}
use Rattle.fab_types.specs.declared.outcome.Outcome.TheVariants.{Moved, NoMemory}
use Rattle.fab_types.specs.declared.place.Way.TheVariants.{Up, Down}
use Rattle.platform.specs.Platform.{Platform}
use Rattle.domain.specs.Domains.{DomainView}
use Rattle.fabric_core.specs.declared.event.Event.{Event}
use Rattle.fabric_core.specs.declared.station.Station.{Station}
use Rattle.fabric_core.specs.declared.station.Station.TheVariants.{FunctionOutbox, HostOutbox, Port, Link, Host, Function}
use Rattle.fabric_core.specs.Events.{StepsTo}
use Rattle.fabric_core.specs.Runs.{Run}
use Rattle.fabric_core.specs.Stations.{events_at}
use Rattle.fabric_core.specs.World.{World}
use Rattle.platform.specs.Rising.{IsRising}

-- ---- the events of a sweep

abbrev pub host_outbox : DomainView → Station
host_outbox domain = HostOutbox domain.share.domain

-- the directions of the link with this lower end, upward first
abbrev pub both_ways : ℕ → List Station
both_ways lower = Link (record { lower = lower; way = Up }) ∷ Link (record { lower = lower; way = Down }) ∷ []

-- functions, ports of switches and lower ends of links
pub record Places : Type 0 where
  pub functions : List ℕ
  pub ports : List ℕ
  pub links : List ℕ

abbrev pub stations_of : Places → List DomainView → List Station
stations_of p domains =
    map FunctionOutbox p.functions ++ map host_outbox domains ++ map Port p.ports ++ flat_map both_ways p.links ++ (Host ∷ []) ++ map Function p.functions

-- the events of a sweep of a platform with these domains: by rising IDs, and hosts in the order of the domains
pub record IsSweep (platform : Platform) (domains : List DomainView) (events : List Event) : Type 0 where
  pub places : Places
  pub functions : IsRising (map (λ line. line.id) platform.functions) places.functions
  pub ports : IsRising (map (λ line. line.id) platform.switches ++ map (λ line. line.id) platform.ports) places.ports
  pub links : IsRising (map (λ line. line.id) platform.switches ++ map (λ line. line.id) platform.functions) places.links
  pub all : events ≡ flat_map events_at (stations_of places domains)

-- ---- several sweeps

abbrev pub is_moved : Outcome → Bool
is_moved Moved = true
is_moved outcome = false

abbrev pub lacks_memory : Outcome → Bool
lacks_memory NoMemory = true
lacks_memory outcome = false

-- the events were made in turn, none lacked memory, and it is said whether one of them moved something
pub record Sweeps (events : List Event) (old : World) (moved : Bool) (new : World) : Type 0 where
  pub outcomes : List Outcome
  pub run : Run old events outcomes new
  pub memory : list_any lacks_memory outcomes ≡ false
  pub moves : moved ≡ list_any is_moved outcomes

-- so many sweeps, or fewer: the last one is the first in which nothing moves
abbrev pub SweepsUpTo : List Event → ℕ → World → World → Type 0
SweepsUpTo events zero old new = new ≡ old
SweepsUpTo events (suc most) old new =
    (moved : Bool) × (mid : World) × Sweeps events old moved mid × MatchBool moved (SweepsUpTo events most mid new) (new ≡ mid)

-- ---- sweeps that are cut short

-- the events before one of them were made, and that one was refused memory: it and those behind it are not made
pub record CutShort (events : List Event) (old new : World) : Type 0 where
  pub before : List Event
  pub refused : Event
  pub behind : List Event
  pub all : events ≡ before ++ refused ∷ behind
  pub moved : Bool
  pub made : Sweeps before old moved new
  pub lacks : StepsTo new refused NoMemory new

-- of so many sweeps at most one was cut short, and each before it moved something
abbrev pub SweepsCutShort : List Event → ℕ → World → World → Type 0
SweepsCutShort events zero old new = ⊥
SweepsCutShort events (suc most) old new = CutShort events old new ⊎ ((mid : World) × Sweeps events old true mid × SweepsCutShort events most mid new)
