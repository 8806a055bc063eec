-- Which packets wait at a port for a place in a lane (PCIe 4.0, 2.4.1).
use Rattle.std.specs.Prelude.{◌≡◌, ℕ, ◌≤◌, Bool, false, List, length, slice_index_or, Option, Some, None}
use Rattle.bridge.specs.Bridges.{Routes}
use Rattle.frame_log.specs.Descriptor.{Descriptor}
use Rattle.lane.specs.Lanes.{Class, eligible}
use Rattle.link.specs.Channels.{Channel, is_full}
use Rattle.port.specs.Configs.{Config}
use Rattle.port.specs.Courses.{course_of}
use Rattle.port.specs.Turns.{PortView}
use Rattle.port.specs.declared.course.Forwarding.{Forwarding}
use Rattle.port.specs.declared.course.Forwarding.TheVariants.{To, Stop, NoCase}
use Rattle.topology.specs.Topologies.{Tree}
use Rattle.topology.specs.declared.nodes.LinkEnd.{LinkEnd}
use Rattle.topology.specs.declared.places.PortPlace.{PortPlace}
use Rattle.interconnect.specs.Moves.{channel_at}
use Rattle.interconnect.specs.Passes.{index_of, no_place, no_port}
use Rattle.interconnect.specs.Views.{InterconnectView, channels}
use Rattle.interconnect.specs.declared.waits.KnownCourse.{KnownCourse}

-- the lane of a packet that goes on
abbrev pub lane_of : Forwarding → Option ℕ
lane_of (To lane) = Some lane
lane_of (Stop report) = None
lane_of NoCase = None

-- a packet of this head goes down this lane
pub record IsCourse (routes : Routes) (config : Config) (c : KnownCourse) : Type 0 where
  pub goes : lane_of (course_of routes config c.head) ≡ Some c.lane
  pub within : c.lane ≤ length config.exits

-- has that lane of the switch no place for the class?
abbrev pub waits_on : List (List Channel) → ℕ → Class → Option ℕ → Bool
waits_on channels node class None = false
waits_on channels node class (Some lane) = is_full class (channel_at channels (record { node = node; output = lane }))

abbrev pub waits_of : Routes → List (List Channel) → ℕ → Class → Config → Option (Descriptor × List Descriptor) → Bool
waits_of routes channels node class config None = false
waits_of routes channels node class config (Some taken) = waits_on channels node class (lane_of (course_of routes config taken.0.head))

-- of the packets that come into a port, if anything does
abbrev pub waits_from : Routes → List (List Channel) → Class → Config → ℕ → Option LinkEnd → Bool
waits_from routes channels class config node None = false
waits_from routes channels class config node (Some input) = waits_of routes channels node class config (eligible class (channel_at channels input).ingress)

abbrev pub waits_in : Routes → List (List Channel) → Class → PortView → PortPlace → Bool
waits_in routes channels class port place = waits_from routes channels class port.config place.node place.input

abbrev pub waits_number : Tree → Routes → List (List Channel) → List PortView → Class → Option ℕ → Bool
waits_number tree routes channels ports class None = false
waits_number tree routes channels ports class (Some i) = waits_in routes channels class (slice_index_or ports i no_port) (slice_index_or tree.places i no_place)

-- does the eligible packet of a class at the port of this ID wait for a place?
abbrev pub waits_among : Tree → Routes → List (List Channel) → List PortView → ℕ → Class → Bool
waits_among tree routes channels ports id class = waits_number tree routes channels ports class (index_of tree.places id)

abbrev pub waits_at : InterconnectView → ℕ → Class → Bool
waits_at h id class = waits_among h.tree h.routes (channels h) h.ports id class
