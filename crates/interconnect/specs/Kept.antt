-- What every interconnect keeps: each node has the outputs that its tree says, and each port an output for each way out of its
-- switch.
use Rattle.std.specs.Prelude.{◌≡◌, ℕ, ◌+◌, ◌<◌, List, length, map, slice_get, slice_index_or, Option, Some}
use Rattle.bridge.specs.Bridges.{Routes}
use Rattle.port.specs.Turns.{PortView}
use Rattle.topology.specs.declared.places.PortPlace.{PortPlace}
use Rattle.topology.specs.Topologies.{IsTree}
use Rattle.interconnect.specs.declared.interconnect.Interconnect.TheInside.{Inside}
use Rattle.interconnect.specs.declared.waits.KnownCourse.{KnownCourse}
use Rattle.interconnect.specs.Passes.{no_port}
use Rattle.interconnect.specs.Views.{InterconnectView}
use Rattle.interconnect.specs.Waits.{IsCourse}

abbrev pub interconnect_view : Inside → InterconnectView
interconnect_view h = record { tree = h.topology; routes = h.bridge; nodes = h.nodes.items; ports = h.ports.items }

-- the port at this place has as many ways out as its node has outputs, and is the one of that ID
pub record Fits (outputs : List ℕ) (place : PortPlace) (port : PortView) : Type 0 where
  pub id : port.config.id ≡ place.id
  pub ways : slice_index_or outputs place.node 0 ≡ length port.config.exits + 1

pub record IsInterconnect (h : InterconnectView) : Type 0 where
  pub sound : IsTree h.tree
  pub outputs : map length h.nodes ≡ h.tree.outputs
  pub many : length h.ports ≡ length h.tree.places
  pub fit : (i : ℕ) (place : PortPlace) (port : PortView) → i < length h.ports → Fits h.tree.outputs (slice_index_or h.tree.places i place) (slice_index_or h.ports i port)

-- what is known of the port at each place is so
pub record AreCourses (routes : Routes) (ports : List PortView) (courses : List (Option KnownCourse)) : Type 0 where
  pub many : length courses ≡ length ports
  pub each : (i : ℕ) (c : KnownCourse) → slice_get courses i ≡ Some (Some c) → IsCourse routes (slice_index_or ports i no_port).config c

pub record IsKept (h : Inside) : Type 0 where
  pub kept : IsInterconnect (interconnect_view h)
  pub courses : AreCourses h.bridge h.ports.items h.courses.items
