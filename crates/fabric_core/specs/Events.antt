-- What each event does to a fabric.
use Rattle.std.specs.Prelude.{◌≡◌, Bool, true, false, List, Option, Some, None, IsSome, option_map, if◌then◌else◌}
use Rattle.std.specs.Option.{option_and_then}
use Rattle.fab_types.specs.declared.class.Class.{Class}
use Rattle.fab_types.specs.declared.faults.begin.BeginFault.{BeginFault}
use Rattle.fab_types.specs.declared.faults.begin.BeginFault.TheVariants as begin
use Rattle.fab_types.specs.declared.outcome.Outcome.{Outcome}
use Rattle.fab_types.specs.declared.outcome.Outcome.TheVariants.{Moved, Idle, Refused, NoMemory}
use Rattle.fab_types.specs.declared.place.Direction.{Direction}
use Rattle.fab_types.specs.declared.origin.Origin.{Origin}
use Rattle.fab_types.specs.declared.origin.Origin.TheVariants.{Function, Host}
use Rattle.fab_types.specs.declared.place.Way.TheVariants.{Up}
use Rattle.frame_log.specs.Descriptor.{Descriptor}
use Rattle.domains.specs.Agents.{accessed, submitted, taken_from, ticked, waiting_of}
use Rattle.link.specs.Channels.{is_full, deliver, send, update_fc}
use Rattle.lane.specs.Lanes.{eligible}
use Rattle.domains.specs.Domains.{mmio_refusal, submit_refusal, tick_refusal}
use Rattle.topology.specs.Links.{sender_of}
use Rattle.topology.specs.declared.nodes.LinkEnd.{LinkEnd}
use Rattle.interconnect.specs.Moves.{channel_at, on_channel, put_at}
use Rattle.fabric_core.specs.declared.event.Event.{Event}
use Rattle.fabric_core.specs.declared.event.Event.TheVariants.{Submit, Tick, Mmio, Enter, Pass, Send, Take, Credit, Root, Arrive}
use Rattle.fabric_core.specs.Arrivals.{arrive, from_host, arrive_at_host}
use Rattle.fabric_core.specs.Misrouting.{pass}
use Rattle.fabric_core.specs.Wanting.{WantsMemory}
use Rattle.fabric_core.specs.World.{World, with_both, with_channels, with_agents}

-- ---- onto the link

-- what an origin emits leaves by this direction
abbrev pub link_of : Origin → Direction
link_of (Function function) = record { lower = function; way = Up }
link_of (Host domain) = from_host

-- a packet of an outbox goes to the sender of the link, if that has a place for it
abbrev pub entered_at : World → Origin → Class → Option LinkEnd → Descriptor × List Descriptor → Option World
entered_at w origin class None taken = None
entered_at w origin class (Some end) taken =
    if is_full class (channel_at w.channels end) then None
    else Some (with_both w (put_at w.channels end taken.0) (taken_from w.agents origin taken.1))

-- the eligible packet of a class goes from an outbox to the sender of its link
abbrev pub enter : World → Origin → Class → Option World
enter w origin class = option_and_then (entered_at w origin class (sender_of w.tree.links (link_of origin))) (eligible class (waiting_of w.agents.outboxes origin))

-- ---- each event

-- the world after an event, or none where nothing moves
abbrev pub effect : World → Event → Option World
effect w (Submit function bytes) = option_map (with_agents w) (submitted w.agents function bytes)
effect w (Tick function) = option_map (with_agents w) (ticked w.agents function)
effect w (Mmio domain access) = option_map (with_agents w) (accessed w.agents domain access)
effect w (Enter origin class) = enter w origin class
effect w (Pass port class) = pass w port class
effect w (Send direction class) = option_map (with_channels w) (on_channel w.channels (sender_of w.tree.links direction) (send class))
effect w (Take direction) = option_map (with_channels w) (on_channel w.channels (sender_of w.tree.links direction) deliver)
effect w (Credit direction) = option_map (with_channels w) (on_channel w.channels (sender_of w.tree.links direction) update_fc)
effect w (Root class) = arrive_at_host w class
effect w (Arrive function class) = arrive w function class

-- does it begin something, as a function or a host asks?
abbrev pub is_begin : Event → Bool
is_begin (Submit function bytes) = true
is_begin (Tick function) = true
is_begin (Mmio domain access) = true
is_begin event = false

-- does it take a packet from where that waits or travels?
abbrev pub takes_packet : Event → Bool
takes_packet (Enter origin class) = true
takes_packet (Pass port class) = true
takes_packet (Send direction class) = true
takes_packet (Take direction) = true
takes_packet (Root class) = true
takes_packet (Arrive function class) = true
takes_packet event = false

-- the refusal of a begin, if it is refused, memory aside
abbrev pub refusal : World → Event → Option BeginFault
refusal w (Submit function bytes) = option_map begin.Submit (submit_refusal w.agents.domains function bytes)
refusal w (Tick function) = option_map begin.Tick (tick_refusal w.agents.domains function)
refusal w (Mmio domain access) = option_map begin.Mmio (mmio_refusal w.agents.domains domain access)
refusal w event = None

-- What an outcome says of an event: it did what the event does, or it changed nothing, and why
abbrev pub StepsTo : World → Event → Outcome → World → Type 0
StepsTo old event Moved new = effect old event ≡ Some new
StepsTo old event Idle new = (effect old event ≡ None) × (refusal old event ≡ None) × (new ≡ old)
StepsTo old event (Refused fault) new = (refusal old event ≡ Some fault) × (new ≡ old)
StepsTo old event NoMemory new = IsSome (effect old event) × WantsMemory old event × (new ≡ old)
