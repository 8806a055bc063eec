-- What the host and a function do with a packet that they take (PCIe 4.0, 2.2.9 and 2.3.1).
use Rattle.std.specs.Prelude.{ℕ, is_some, List, Option, Some, None, option_map, if◌then◌else◌}
use Rattle.fab_types.specs.declared.class.Class.{Class}
use Rattle.fab_types.specs.declared.place.Direction.{Direction}
use Rattle.fab_types.specs.declared.place.Way.TheVariants.{Down}
use Rattle.frame_log.specs.Descriptor.{Descriptor}
use Rattle.domain.specs.Domains.{DomainView}
use Rattle.platform.specs.declared.parts.DownstreamPort.{DownstreamPort}
use Rattle.domains.specs.Agents.{AgentsView, carried_by_function, carried_by_host, delivered, is_function_of}
use Rattle.link.specs.Channels.{Channel, is_full}
use Rattle.lane.specs.Lanes.{eligible}
use Rattle.domains.specs.Domains.{place_of_function}
use Rattle.topology.specs.Links.{sender_of}
use Rattle.topology.specs.declared.nodes.LinkEnd.{LinkEnd}
use Rattle.interconnect.specs.Moves.{channel_at, left_at, put_at}
use Rattle.received.specs.declared.received.Received.{Received}
use Rattle.received.specs.Received.{received_at_function, received_at_host}
pub use Rattle.fabric_core.specs.Aliens.{to_function, to_host}
use Rattle.fabric_core.specs.Aliens.{alien_at_function, alien_at_host, or_else}
use Rattle.fabric_core.specs.World.{World, with_both, with_channels, with_stray}

-- ---- what is taken

-- the eligible packet of a class that a direction brought, and the directions without it
pub record Taken : Type 0 where
  pub frame : Descriptor
  pub channels : List (List Channel)

abbrev pub taken_from : List (List Channel) → LinkEnd → Descriptor × List Descriptor → Taken
taken_from channels end taken = record { frame = taken.0; channels = left_at channels end taken.1 }

abbrev pub taken_at : List (List Channel) → Class → Option LinkEnd → Option Taken
taken_at channels class None = None
taken_at channels class (Some end) = option_map (taken_from channels end) (eligible class (channel_at channels end).ingress)

abbrev pub taken : World → Direction → Class → Option Taken
taken w direction class = taken_at w.channels class (sender_of w.tree.links direction)

-- the link between the host and the top switch, on the way down
abbrev pub from_host : Direction
from_host = record { lower = 0x0100; way = Down }

-- ---- who ends it

-- a function takes what a function or the host of its own domain made
abbrev pub received_in : List DownstreamPort → List DomainView → ℕ → Descriptor → Received
received_in ports domains function frame = received_at_function ports function (is_function_of domains function frame.domain) frame

abbrev pub received_at : World → ℕ → Descriptor → Received
received_at w function frame = received_in w.routes.ports w.agents.domains function frame

-- ---- what it leaves

-- the packet was taken and a machine has this entry of it, or none
abbrev pub ended : World → Taken → Option AgentsView → World
ended w t None = with_stray w t.channels t.frame
ended w t (Some agents) = with_both w t.channels agents

-- what an entry of its home makes of the agents, where its home has a case for it at the host
abbrev pub own_by_host : AgentsView → Descriptor → Received → Option AgentsView
own_by_host agents frame Received.Relayed = None
own_by_host agents frame Received.Request = carried_by_host agents frame
own_by_host agents frame Received.Completion = delivered agents frame
own_by_host agents frame Received.Unknown = None

-- the same at a function
abbrev pub own_by_function : AgentsView → ℕ → Descriptor → Received → Option AgentsView
own_by_function agents function frame Received.Relayed = None
own_by_function agents function frame Received.Request = carried_by_function agents function frame
own_by_function agents function frame Received.Completion = delivered agents frame
own_by_function agents function frame Received.Unknown = None

-- such an entry, or else one of who gets the packet as an alien one; none where nobody has a case for it
abbrev pub agents_by_host : List DownstreamPort → AgentsView → Descriptor → Received → Option AgentsView
agents_by_host ports agents frame received = or_else (own_by_host agents frame received) (alien_at_host ports agents frame)

abbrev pub agents_by_function : AgentsView → ℕ → Descriptor → Received → Option AgentsView
agents_by_function agents function frame received = or_else (own_by_function agents function frame received) (alien_at_function agents function frame)

-- it goes down again, if the root port has a place for it
abbrev pub relayed : World → Taken → Class → Option LinkEnd → Option World
relayed w t class None = None
relayed w t class (Some end) =
    if is_full class (channel_at w.channels end) then None
    else Some (with_channels w (put_at t.channels end t.frame))

abbrev pub arrived_at_host_by : World → Class → Taken → Received → Option World
arrived_at_host_by w class t Received.Relayed = relayed w t class (sender_of w.tree.links from_host)
arrived_at_host_by w class t Received.Request = Some (ended w t (agents_by_host w.routes.ports w.agents t.frame Received.Request))
arrived_at_host_by w class t Received.Completion = Some (ended w t (agents_by_host w.routes.ports w.agents t.frame Received.Completion))
arrived_at_host_by w class t Received.Unknown = Some (ended w t (agents_by_host w.routes.ports w.agents t.frame Received.Unknown))

abbrev pub arrived_at_host : World → Class → Option Taken → Option World
arrived_at_host w class None = None
arrived_at_host w class (Some t) = arrived_at_host_by w class t (received_at_host t.frame)

-- the host takes the eligible packet of a class
abbrev pub arrive_at_host : World → Class → Option World
arrive_at_host w class = arrived_at_host w class (taken w to_host class)

abbrev pub arrived_by : World → ℕ → Taken → Received → World
arrived_by w function t received = ended w t (agents_by_function w.agents function t.frame received)

abbrev pub arrived : World → ℕ → Option Taken → Option World
arrived w function all = option_map (λ t. arrived_by w function t (received_at w function t.frame)) all

-- a function takes the eligible packet of a class
abbrev pub arrive : World → ℕ → Class → Option World
arrive w function class =
    if is_some (place_of_function w.agents.domains function) then arrived w function (taken w (to_function function) class)
    else None
