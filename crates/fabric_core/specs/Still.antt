-- Where nothing moves any more (PCIe 4.0, 2.4.1 and 2.6.1): that no event has an effect, and that no packet is left.
use Rattle.std.specs.Prelude.{◌≡◌, ⊤, ℕ, false, List, [], ◌++◌, map, All, Contains, None, IsSome}
use Rattle.fab_types.specs.declared.origin.Origin.TheVariants as origin
use Rattle.fab_types.specs.declared.outcome.Outcome.{Outcome}
use Rattle.fab_types.specs.declared.place.Place.{Place}
use Rattle.domains.specs.Agents.{outbox_place}
use Rattle.domains.specs.Aliens.{flown}
use Rattle.domains.specs.Domains.{place_of_function}
use Rattle.interconnect.specs.Passes.{index_of}
use Rattle.platform.specs.Platform.{Platform}
use Rattle.topology.specs.Links.{sender_of}
use Rattle.fabric_core.specs.declared.event.Event.{Event}
use Rattle.fabric_core.specs.declared.station.Station.{Station}
use Rattle.fabric_core.specs.declared.station.Station.TheVariants as station
use Rattle.fabric_core.specs.Events.{effect, is_begin}
use Rattle.fabric_core.specs.Runs.{Run}
use Rattle.fabric_core.specs.Stations.{events_at}
use Rattle.fabric_core.specs.Trails.{standing_at}
use Rattle.fabric_core.specs.World.{World, world_of}

-- no event that is no begin moves anything
pub record IsStill (w : World) : Type 0 where
  pub idle : (event : Event) → is_begin event ≡ false → effect w event ≡ None

-- has the fabric such a station?
abbrev pub HasStation : World → Station → Type 0
HasStation w (station.FunctionOutbox function) = IsSome (outbox_place w.agents.outboxes (origin.Function function))
HasStation w (station.HostOutbox domain) = IsSome (outbox_place w.agents.outboxes (origin.Host domain))
HasStation w (station.Port port) = IsSome (index_of w.tree.places port)
HasStation w (station.Link direction) = IsSome (sender_of w.tree.links direction)
HasStation w station.Host = ⊤
HasStation w (station.Function function) = IsSome (place_of_function w.agents.domains function)

-- no event of the station moves anything
abbrev pub IsIdleAt : World → Station → Type 0
IsIdleAt w s = All (λ event. effect w event ≡ None) (events_at s)

-- no packet waits or travels anywhere
pub record IsEmpty (w : World) : Type 0 where
  pub none : (place : Place) → standing_at w place ≡ []

-- whatever happens from here on, where it comes to a stop no packet is left
pub record NeverBlocks (start : World) : Type 0 where
  pub left : (events : List Event) (outcomes : List Outcome) (w : World) → Run start events outcomes w → IsStill w → IsEmpty w

-- nothing that a domain made is in flight, so entries of its journal have consumed all of it
pub record HasNoneInFlight (w : World) : Type 0 where
  pub none : (domain n : ℕ) → flown w.agents.domains domain n ≡ None

-- and where it comes to a stop, all that any domain made was consumed
pub record Concludes (start : World) : Type 0 where
  pub consumed : (events : List Event) (outcomes : List Outcome) (w : World) → Run start events outcomes w → IsStill w → HasNoneInFlight w

-- is the station one of the platform's?
abbrev pub IsStationOf : Platform → Station → Type 0
IsStationOf platform (station.FunctionOutbox function) = Contains (map (λ line. line.id) platform.functions) function
IsStationOf platform (station.HostOutbox domain) = Contains (map (λ d. d.share.domain) (world_of platform).agents.domains) domain
IsStationOf platform (station.Port port) = Contains (map (λ line. line.id) platform.switches ++ map (λ line. line.id) platform.ports) port
IsStationOf platform (station.Link direction) = Contains (map (λ line. line.id) platform.switches ++ map (λ line. line.id) platform.functions) direction.lower
IsStationOf platform station.Host = ⊤
IsStationOf platform (station.Function function) = Contains (map (λ line. line.id) platform.functions) function
