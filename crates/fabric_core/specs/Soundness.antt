-- A fabric of a guarded layout, in which each packet is on its way to somebody who has a case for it.
use Rattle.std.specs.Prelude.{◌≡◌, ◌≢◌, ℕ, List, [], All, length, map, Option, Some}
use Rattle.std.specs.List.{flat_map}
use Rattle.std.specs.Option.{IfSome}
use Rattle.fab_types.specs.declared.place.Direction.{Direction}
use Rattle.fab_types.specs.declared.origin.Origin.{Origin}
use Rattle.bridge.specs.Bridges.{of_platform}
use Rattle.platform.specs.Platform.{Platform}
use Rattle.platform.specs.Share.{Share}
use Rattle.domain.specs.Domains.{DomainView}
use Rattle.domain.specs.Machine.{replay}
use Rattle.request_handling.specs.Emissions.{Emission}
use Rattle.request_handling.specs.WellMade.{IsWellMade}
use Rattle.domains.specs.Agents.{waiting_of}
use Rattle.port.specs.Configs.{Config}
use Rattle.port.specs.Turns.{PortView}
use Rattle.domains.specs.Domains.{starting_domains}
use Rattle.topology.specs.Links.{sender_of}
use Rattle.topology.specs.Topologies.{tree_of}
use Rattle.topology.specs.declared.links.Link.{Link}
use Rattle.topology.specs.declared.nodes.LinkEnd.{LinkEnd}
use Rattle.interconnect.specs.Moves.{channel_at}
use Rattle.interconnect.specs.Starts.{ports_of}
use Rattle.guarded_routes.specs.Guarded.{IsGuarded}
use Rattle.guarded_routes.specs.Sound.{IsSound}
use Rattle.fabric_core.specs.Events.{link_of}
use Rattle.fabric_core.specs.Places.{frames_on, strays_of}
use Rattle.fabric_core.specs.World.{World}

abbrev pub config_of : PortView → Config
config_of port = port.config

abbrev pub share_of : DomainView → Share
share_of d = d.share

-- the fabric is one of this platform
pub record IsOfPlatform (platform : Platform) (w : World) : Type 0 where
  pub tree : w.tree ≡ tree_of platform
  pub routes : w.routes ≡ of_platform platform
  pub configs : map config_of w.ports ≡ map config_of (ports_of platform)
  pub shares : map share_of w.agents.domains ≡ map share_of (starting_domains platform)

-- no direction of a link is sent from this end
abbrev pub IsUnsent : List Link → LinkEnd → Type 0
IsUnsent links end = (direction : Direction) → sender_of links direction ≢ Some end

-- each packet is sound where it stands, and none is stray
pub record AreSound (platform : Platform) (w : World) : Type 0 where
  pub links : (direction : Direction) (end : LinkEnd) → sender_of w.tree.links direction ≡ Some end → All (IsSound platform direction) (frames_on (channel_at w.channels end))
  pub elsewhere : (end : LinkEnd) → IsUnsent w.tree.links end → frames_on (channel_at w.channels end) ≡ []
  pub outboxes : (origin : Origin) → All (IsSound platform (link_of origin)) (waiting_of w.agents.outboxes origin)
  pub ports : flat_map strays_of w.ports ≡ []
  pub strays : w.strays ≡ []

-- what is in flight under a number, if anything is, keeps to what a domain's own packets keep to
abbrev pub IsWellMadeIfAny : Option Emission → Type 0
IsWellMadeIfAny item = IfSome item (λ e. IsWellMade e.parties e.bytes)

-- a page of 4,096 bytes
abbrev pub IsPage : ℕ × List ℕ → Type 0
IsPage page = length page.1 ≡ 4096

-- a domain's state is what its journal leaves, its pages have 4,096 bytes, and what it has in flight is well made
pub record IsWellKept (d : DomainView) : Type 0 where
  pub replayed : replay d.share d.journal ≡ Some d.state
  pub frames : All IsPage d.state.frames
  pub registers : All IsPage d.state.registers
  pub well_made : All IsWellMadeIfAny d.state.flight

-- the fabric of a guarded layout, with nothing stray
pub record IsGuardedFabric (w : World) : Type 0 where
  pub platform : Platform
  pub guarded : IsGuarded platform
  pub of_it : IsOfPlatform platform w
  pub sound : AreSound platform w
  pub domains : All IsWellKept w.agents.domains
