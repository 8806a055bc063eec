-- Which stations an event may wake: those where nothing could move before it, and something may after it. A packet that goes
-- on is there for who takes it, gives its link credits to return, and leaves a place for those that put packets there.
use Rattle.std.specs.Prelude.{◌≡◌, ℕ, ◌==◌, Bool, true, false, ◌&&◌, ◌||◌, List, Option, Some, None, option_map, slice_index_or}
use Rattle.fab_types.specs.declared.origin.Origin.{Origin}
use Rattle.fab_types.specs.declared.origin.Origin.TheVariants as origin
use Rattle.topology.specs.declared.nodes.LinkEnd.{LinkEnd}
use Rattle.topology.specs.declared.places.PortPlace.{PortPlace}
use Rattle.topology.specs.Links.{sender_of}
use Rattle.topology.specs.Topologies.{Tree}
use Rattle.interconnect.specs.Passes.{index_of, input_of, no_place}
use Rattle.fabric_core.specs.declared.event.Event.{Event}
use Rattle.fabric_core.specs.declared.event.Event.TheVariants.{Submit, Tick, Mmio, Enter, Pass, Send, Take, Credit, Root, Arrive}
use Rattle.sweeps.specs.declared.reach.Reach.{Reach}
use Rattle.fabric_core.specs.declared.station.Station.{Station}
use Rattle.fabric_core.specs.declared.station.Station.TheVariants as station
use Rattle.fabric_core.specs.Events.{link_of}
use Rattle.fabric_core.specs.Arrivals.{from_host, to_function, to_host}
use Rattle.fabric_core.specs.Stations.{is_quiet}
use Rattle.fabric_core.specs.Still.{IsIdleAt}
use Rattle.fabric_core.specs.World.{World}

-- ---- where a station takes packets, sends them and puts them

abbrev pub node_of : LinkEnd → ℕ
node_of end = end.node

abbrev pub port_node : List PortPlace → Option ℕ → Option ℕ
port_node places None = None
port_node places (Some i) = Some (slice_index_or places i no_place).node

-- by the end that a direction is sent from; what a port puts, or an outbox or the host, waits at some output of a node
abbrev pub reach_of : Tree → Station → Reach
reach_of tree (station.FunctionOutbox function) = record { takes = None; sends = None; puts = option_map node_of (sender_of tree.links (link_of (origin.Function function))) }
reach_of tree (station.HostOutbox domain) = record { takes = None; sends = None; puts = option_map node_of (sender_of tree.links from_host) }
reach_of tree (station.Port port) = record { takes = input_of tree.places port; sends = None; puts = port_node tree.places (index_of tree.places port) }
reach_of tree (station.Link direction) = record { takes = None; sends = sender_of tree.links direction; puts = None }
reach_of tree station.Host = record { takes = sender_of tree.links to_host; sends = None; puts = option_map node_of (sender_of tree.links from_host) }
reach_of tree (station.Function function) = record { takes = sender_of tree.links (to_function function); sends = None; puts = None }

-- ---- whom a station may wake

abbrev pub is_same_end : Option LinkEnd → Option LinkEnd → Bool
is_same_end None other = false
is_same_end (Some end) None = false
is_same_end (Some end) (Some other) = (end.node == other.node) && (end.output == other.output)

abbrev pub is_at_node : Option ℕ → Option LinkEnd → Bool
is_at_node None end = false
is_at_node (Some node) None = false
is_at_node (Some node) (Some end) = node == end.node

-- where one station takes a packet, and sends it or puts it, what stands at these changes
abbrev pub is_changed_by_taking : Reach → Reach → Bool
is_changed_by_taking one other =
    is_same_end one.takes other.takes
    || (is_same_end one.takes other.sends || (is_same_end one.sends other.sends || is_at_node one.puts other.sends))

-- where a packet is received in a direction of a link
abbrev pub is_changed_by_receiving : Reach → Reach → Bool
is_changed_by_receiving one other = is_same_end one.sends other.sends || is_same_end one.sends other.takes

-- where the sender of a direction gets credits back
abbrev pub is_changed_by_credits : Reach → Reach → Bool
is_changed_by_credits one other = is_same_end one.sends other.sends

-- where a packet is sent, there is a place for what these put
abbrev pub is_freed_by_sending : Reach → Reach → Bool
is_freed_by_sending one other = is_at_node other.puts one.sends

abbrev pub is_outbox_of : ℕ → Station → Bool
is_outbox_of function (station.FunctionOutbox other) = function == other
is_outbox_of function s = false

abbrev pub is_outbox_of_host : ℕ → Station → Bool
is_outbox_of_host domain (station.HostOutbox other) = domain == other
is_outbox_of_host domain s = false

abbrev pub is_host_outbox : Station → Bool
is_host_outbox (station.HostOutbox other) = true
is_host_outbox s = false

-- may what happens at the one station put a packet into the outbox that the other is, or take one from there?
abbrev pub changes_outbox : Station → Station → Bool
changes_outbox (station.FunctionOutbox function) s = is_outbox_of function s
changes_outbox (station.HostOutbox domain) s = is_outbox_of_host domain s
changes_outbox (station.Port port) s = false
changes_outbox (station.Link direction) s = false
changes_outbox station.Host s = is_host_outbox s
changes_outbox (station.Function function) s = is_outbox_of function s

abbrev pub outbox_of : Origin → Station
outbox_of (origin.Function function) = station.FunctionOutbox function
outbox_of (origin.Host domain) = station.HostOutbox domain

-- by one of the events that take a packet at a station
abbrev pub changes_by_taking : Tree → Station → Station → Bool
changes_by_taking tree one other = changes_outbox one other || is_changed_by_taking (reach_of tree one) (reach_of tree other)

-- may the event change what stands at the station?
abbrev pub changes : Tree → Event → Station → Bool
changes tree (Submit function bytes) s = changes_outbox (station.FunctionOutbox function) s
changes tree (Tick function) s = changes_outbox (station.FunctionOutbox function) s
changes tree (Mmio domain access) s = changes_outbox (station.HostOutbox domain) s
changes tree (Enter origin class) s = changes_by_taking tree (outbox_of origin) s
changes tree (Pass port class) s = changes_by_taking tree (station.Port port) s
changes tree (Send direction class) s = changes_by_taking tree (station.Link direction) s
changes tree (Take direction) s = is_changed_by_receiving (reach_of tree (station.Link direction)) (reach_of tree s)
changes tree (Credit direction) s = is_changed_by_credits (reach_of tree (station.Link direction)) (reach_of tree s)
changes tree (Root class) s = changes_by_taking tree station.Host s
changes tree (Arrive function class) s = changes_by_taking tree (station.Function function) s

-- may it free a place where the station puts packets?
abbrev pub frees : Tree → Event → Station → Bool
frees tree (Send direction class) s = is_freed_by_sending (reach_of tree (station.Link direction)) (reach_of tree s)
frees tree event s = false

-- may the event wake the station?
abbrev pub wakes : Tree → Event → Station → Bool
wakes tree event s = changes tree event s || frees tree event s

-- each station where nothing could move, and that the event doesn't wake, is still so
abbrev pub WakesNoOther : World → Event → World → Type 0
WakesNoOther old event new = (s : Station) → wakes old.tree event s ≡ false → IsIdleAt old s → IsIdleAt new s

-- each quiet station that the event doesn't change is still so
abbrev pub LeavesQuiet : World → Event → World → Type 0
LeavesQuiet old event new = (s : Station) → changes old.tree event s ≡ false → is_quiet old s ≡ true → is_quiet new s ≡ true
