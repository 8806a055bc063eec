-- What is sent and waits on the directions of a fabric's links (PCIe 4.0, 2.6.1).
use Rattle.std.specs.Prelude.{◌≡◌, List, Option, Some, option_map}
use Rattle.fab_types.specs.declared.place.Direction.{Direction}
use Rattle.link.specs.Channels.{Channel, IsBounded}
use Rattle.topology.specs.Links.{sender_of}
use Rattle.topology.specs.declared.nodes.LinkEnd.{LinkEnd}
use Rattle.interconnect.specs.Moves.{channel_at}
use Rattle.fabric_core.specs.World.{World}

-- what is sent and waits on this direction, if there is such a link
abbrev pub channel_of : World → Direction → Option Channel
channel_of w direction = option_map (channel_at w.channels) (sender_of w.tree.links direction)

-- the credits of the direction are within its start, and the packets behind its sender have places
abbrev pub HasCredits : World → Direction → Type 0
HasCredits w direction = (c : Channel) → channel_of w direction ≡ Some c → IsBounded c

-- so they are on every direction: no receive queue is overrun
abbrev pub HaveCredits : World → Type 0
HaveCredits w = (direction : Direction) → HasCredits w direction

-- the same of the directions as they stand by the ends that send on them
abbrev pub AreBounded : List (List Channel) → Type 0
AreBounded channels = (end : LinkEnd) → IsBounded (channel_at channels end)
