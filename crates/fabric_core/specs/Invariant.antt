-- What a fabric keeps: its packets are placed, its links and ports are those of its tree, its domains know the ports of its
-- layout, and between events no port holds a report or an answer.
use Rattle.std.specs.Prelude.{◌≡◌, ℕ, ◌<◌, ◌≤◌, List, length, map, slice_index_or, true, All, None}
use Rattle.domain.specs.Domains.{DomainView}
use Rattle.domains.specs.Agents.{IsSettled}
use Rattle.platform.specs.declared.parts.DownstreamPort.{DownstreamPort}
use Rattle.port.specs.Turns.{PortView}
use Rattle.topology.specs.Topologies.{IsTree}
use Rattle.topology.specs.declared.places.PortPlace.{PortPlace}
use Rattle.interconnect.specs.Kept.{Fits}
use Rattle.fabric_core.specs.Credits.{AreBounded}
use Rattle.fabric_core.specs.Orders.{KeepWayOrder}
use Rattle.fabric_core.specs.Places.{ArePlaced}
use Rattle.fabric_core.specs.Soundness.{IsGuardedFabric}
use Rattle.fabric_core.specs.World.{World, is_guarded}

-- it holds no report and keeps no answer
pub record IsFree (port : PortView) : Type 0 where
  pub held : port.held ≡ None
  pub kept : port.kept ≡ None

-- a port's own output is one of its switch, which has as many as the tree says
pub record IsPlaced (outputs : List ℕ) (place : PortPlace) (port : PortView) : Type 0 where
  pub fits : Fits outputs place port
  pub own : port.config.own ≤ length port.config.exits

-- the directions of links and the ports are those that the tree says
pub record IsBuilt (w : World) : Type 0 where
  pub sound : IsTree w.tree
  pub outputs : map length w.channels ≡ w.tree.outputs
  pub many : length w.ports ≡ length w.tree.places
  pub placed : (i : ℕ) (place : PortPlace) (port : PortView) → i < length w.ports → IsPlaced w.tree.outputs (slice_index_or w.tree.places i place) (slice_index_or w.ports i port)

-- the share of a domain tells these ports of its layout
abbrev pub HasPorts : List DownstreamPort → DomainView → Type 0
HasPorts ports d = d.share.ports ≡ ports

pub record IsConsistent (w : World) : Type 0 where
  pub built : IsBuilt w
  pub settled : IsSettled w.agents
  pub shares : All (HasPorts w.routes.ports) w.agents.domains
  pub placed : ArePlaced w
  pub free : All IsFree w.ports

-- and on every direction credits bound what travels and waits; in a guarded layout each packet is on its way to somebody who
-- has a case for it, and packets of a domain that keep their order are in turn
pub record IsFabric (w : World) : Type 0 where
  pub kept : IsConsistent w
  pub bounded : AreBounded w.channels
  pub guarded : is_guarded w ≡ true → IsGuardedFabric w
  pub ordered : (controls : is_guarded w ≡ true) → KeepWayOrder (guarded controls).platform w
