-- What a port is about to misroute: the eligible packet of a class that came into it and that it has no case for.
use Rattle.std.specs.Prelude.{ℕ, List, slice_index_or, Option, Some, None, option_map}
use Rattle.bridge.specs.Bridges.{Routes}
use Rattle.fab_types.specs.declared.head.Head.{Head}
use Rattle.frame_log.specs.Descriptor.{Descriptor}
use Rattle.link.specs.Channels.{Channel}
use Rattle.port.specs.Configs.{Config}
use Rattle.port.specs.Courses.{course_of}
use Rattle.port.specs.Misroutes.{misroute_of}
use Rattle.lane.specs.Lanes.{Class, eligible}
use Rattle.port.specs.Turns.{PortView}
use Rattle.port.specs.declared.course.Forwarding.{Forwarding}
use Rattle.port.specs.declared.misroute.Misroute.{Misroute}
use Rattle.topology.specs.Topologies.{Tree}
use Rattle.topology.specs.declared.nodes.LinkEnd.{LinkEnd}
use Rattle.topology.specs.declared.places.PortPlace.{PortPlace}
use Rattle.interconnect.specs.declared.misrouted.Misrouted.{Misrouted}
use Rattle.interconnect.specs.Moves.{channel_at}
use Rattle.interconnect.specs.Passes.{index_of, no_place, no_port}
use Rattle.interconnect.specs.Views.{InterconnectView, channels}

-- the output out of the port itself, among those of its switch
abbrev pub own_end : ℕ → Config → LinkEnd
own_end node config = record { node = node; output = config.own }

abbrev pub misrouted_with : ℕ → LinkEnd → Config → Misroute → Misrouted
misrouted_with node input config misroute = record { input = input; own = own_end node config; place = misroute.place; report = misroute.report }

-- a packet with this head, which came into the port from this end, if the port has no case for it
abbrev pub misrouted_by : Routes → ℕ → LinkEnd → Config → Head → Forwarding → Option Misrouted
misrouted_by routes node input config head course = option_map (misrouted_with node input config) (misroute_of routes config head course)

abbrev pub misrouted_of : Routes → ℕ → LinkEnd → Config → Option (Descriptor × List Descriptor) → Option Misrouted
misrouted_of routes node input config None = None
misrouted_of routes node input config (Some taken) = misrouted_by routes node input config taken.0.head (course_of routes config taken.0.head)

-- of the packets that come into a port, if anything does
abbrev pub misrouted_from : Routes → List (List Channel) → Class → Config → ℕ → Option LinkEnd → Option Misrouted
misrouted_from routes channels class config node None = None
misrouted_from routes channels class config node (Some input) = misrouted_of routes node input config (eligible class (channel_at channels input).ingress)

abbrev pub misrouted_in : Routes → List (List Channel) → Class → PortView → PortPlace → Option Misrouted
misrouted_in routes channels class port place = misrouted_from routes channels class port.config place.node place.input

abbrev pub misrouted_number : Tree → Routes → List (List Channel) → List PortView → Class → Option ℕ → Option Misrouted
misrouted_number tree routes channels ports class None = None
misrouted_number tree routes channels ports class (Some i) = misrouted_in routes channels class (slice_index_or ports i no_port) (slice_index_or tree.places i no_place)

-- what the port of this ID is about to misroute
abbrev pub misrouted_among : Tree → Routes → List (List Channel) → List PortView → ℕ → Class → Option Misrouted
misrouted_among tree routes channels ports id class = misrouted_number tree routes channels ports class (index_of tree.places id)

abbrev pub misrouted_at : InterconnectView → ℕ → Class → Option Misrouted
misrouted_at h id class = misrouted_among h.tree h.routes (channels h) h.ports id class
