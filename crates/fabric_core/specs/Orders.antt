-- Packets of a domain that keep their order (PCIe 4.0, 2.4.1), on the way that they go.
use Rattle.std.specs.Prelude.{◌≡◌, ℕ, ◌<◌, true, All, List, slice_get, Some, None, IsSome}
use Rattle.fab_types.specs.Id.{bus_of}
use Rattle.fab_types.specs.declared.origin.Origin.TheVariants.{Function, Host}
use Rattle.fab_types.specs.declared.place.Place.{Place}
use Rattle.platform.specs.declared.parts.DownstreamPort.{DownstreamPort}
use Rattle.platform.specs.Owners.{holds_bus}
use Rattle.platform.specs.Platform.{Platform}
use Rattle.platform.specs.Tree.{id_below, port_at}
use Rattle.request_handling.specs.Heads.{head_of}
use Rattle.domain.specs.Consumed.{is_in_order}
use Rattle.domain.specs.Domains.{DomainView}
use Rattle.domain.specs.Orders.{IsPosted, IsTo, KeepOrder, direct_from}
use Rattle.domain.specs.Sent.{Sent, sent}
use Rattle.domain_state.specs.State.{item_at}
use Rattle.guarded_routes.specs.Guarded.{IsFunctionOf}
use Rattle.guarded_routes.specs.Links.{IsPath, IsWay}
use Rattle.guarded_routes.specs.Sound.{let_by}
use Rattle.fabric_core.specs.Places.{is_numbered}
use Rattle.fabric_core.specs.Trails.{InOrderOnWay, across, from_function, from_host, never, standing_at}
use Rattle.fabric_core.specs.World.{World}

-- the places that a packet goes through: up from the function that sent it to the host; up to the port that lets it through
-- and on to another function; or down from the host to the function that it is for
pub data GoesBy (platform : Platform) (domain : ℕ) (packet : Sent) : List Place → Type 0 where
  Up : (function : ℕ) (links : List ℕ) → packet.source ≡ Some (Function function) → direct_from platform.ports function packet.emission ≡ None → IsFunctionOf platform domain function → IsWay platform function links → GoesBy platform domain packet (from_function function links)
  Across : (function peer : ℕ) (line : DownstreamPort) (links : List ℕ) → packet.source ≡ Some (Function function) → direct_from platform.ports function packet.emission ≡ Some peer → IsFunctionOf platform domain function
      → port_at platform.ports line.id ≡ Some line → holds_bus line (bus_of function) ≡ true → let_by platform line (head_of packet.emission).header ≡ Some peer → IsPath platform (id_below line) function links
      → GoesBy platform domain packet (across peer function links)
  Down : (function : ℕ) (links : List ℕ) → packet.source ≡ Some (Host domain) → IsTo function packet.emission.parties → IsFunctionOf platform domain function → IsWay platform function links → GoesBy platform domain packet (from_host domain links)

-- two packets that a domain made and that keep their order
pub record AreOrdered (d : DomainView) (n m : ℕ) : Type 0 where
  pub less : n < m
  pub first : Sent
  pub second : Sent
  pub first_at : slice_get (sent d.share d.journal) n ≡ Some first
  pub second_at : slice_get (sent d.share d.journal) m ≡ Some second
  pub keep : KeepOrder d.share.ports d.share.domain first second

-- the packets of these numbers are in turn at these places
abbrev pub OrderOf : World → DomainView → List Place → ℕ → ℕ → Type 0
OrderOf w d places n m = InOrderOnWay (standing_at w) places (is_numbered d.share.domain n) (is_numbered d.share.domain m)

-- a packet stands at these places, and nowhere else
abbrev pub KeepsToWay : World → DomainView → List Place → ℕ → Type 0
KeepsToWay w d places n = InOrderOnWay (standing_at w) places (is_numbered d.share.domain n) never

-- after an event they are in turn while the first is in flight, and no entry consumed the second before one consumed the
-- first
pub record StayOrdered (new : World) (d : DomainView) (places : List Place) (n m : ℕ) : Type 0 where
  pub turn : IsSome (item_at d.state.flight n) → OrderOf new d places n m
  pub order : is_in_order n m d.journal ≡ true

-- ---- the order law

-- of each two packets that a domain made and that keep their order, no entry consumed the second before one consumed the
-- first
abbrev pub IsInOrder : DomainView → Type 0
IsInOrder d = (n m : ℕ) → AreOrdered d n m → is_in_order n m d.journal ≡ true

-- so it is of every domain
abbrev pub AreInOrder : World → Type 0
AreInOrder w = All IsInOrder w.agents.domains

-- ---- what every event keeps of that

-- a packet that has a way: from a function, or from the host to a function
pub data HasWay (domain : ℕ) (packet : Sent) : Type 0 where
  FromFunction : (function : ℕ) → packet.source ≡ Some (Function function) → HasWay domain packet
  ToFunction : (function : ℕ) → packet.source ≡ Some (Host domain) → IsTo function packet.emission.parties → HasWay domain packet

-- it stands on its way, and nowhere else
pub record StandsOnWay (platform : Platform) (w : World) (d : DomainView) (n : ℕ) (packet : Sent) : Type 0 where
  pub places : List Place
  pub goes : GoesBy platform d.share.domain packet places
  pub keeps : KeepsToWay w d places n

-- each posted packet in flight that has a way stands on it; a packet that keeps its order behind such a one stands in turn
-- with it; and the order law holds
pub record KeepsWayOrder (platform : Platform) (w : World) (d : DomainView) : Type 0 where
  pub ways : (n : ℕ) (packet : Sent) → slice_get (sent d.share d.journal) n ≡ Some packet → IsPosted packet.emission → HasWay d.share.domain packet → IsSome (item_at d.state.flight n) → StandsOnWay platform w d n packet
  pub turns : (n m : ℕ) (pair : AreOrdered d n m) → IsSome (item_at d.state.flight n) → (places : List Place) → GoesBy platform d.share.domain pair.first places → OrderOf w d places n m
  pub order : IsInOrder d

-- so it is of every domain
abbrev pub KeepWayOrder : Platform → World → Type 0
KeepWayOrder platform w = (place : ℕ) (d : DomainView) → slice_get w.agents.domains place ≡ Some d → KeepsWayOrder platform w d
