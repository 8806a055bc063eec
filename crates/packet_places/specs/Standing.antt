-- The packets that stand at each place of a fabric: in the outboxes, and on each direction of a link at its sender, on the
-- wire, and at its receiver.
use Rattle.std.specs.Prelude.{ℕ, ◌==◌, Bool, ◌&&◌, List, [], ◌∷◌, Option, Some, None, option_map}
use Rattle.fab_types.specs.declared.place.Direction.{Direction}
use Rattle.fab_types.specs.declared.place.Place.{Place}
use Rattle.fab_types.specs.declared.place.Place.TheVariants as place
use Rattle.fab_types.specs.declared.place.Place.TheVariants.{Egress, Wire, Ingress}
use Rattle.fab_types.specs.declared.place.Way.TheVariants.{Up, Down}
use Rattle.frame_log.specs.Descriptor.{Descriptor}
use Rattle.domains.specs.Agents.{Outbox, waiting_of}
use Rattle.link.specs.Channels.{Channel}
use Rattle.topology.specs.Links.{sender_of}
use Rattle.topology.specs.declared.links.Link.{Link}
use Rattle.interconnect.specs.Moves.{channel_at}

abbrev pub egress_of : Option Channel → List Descriptor
egress_of None = []
egress_of (Some c) = c.egress

abbrev pub wire_of : Option Channel → List Descriptor
wire_of None = []
wire_of (Some c) = c.wire

abbrev pub ingress_of : Option Channel → List Descriptor
ingress_of None = []
ingress_of (Some c) = c.ingress

abbrev pub channel_in : List Link → List (List Channel) → Direction → Option Channel
channel_in links channels direction = option_map (channel_at channels) (sender_of links direction)

-- the packets at a place, oldest first
abbrev pub standing_in : List Link → List (List Channel) → List Outbox → Place → List Descriptor
standing_in links channels boxes (place.Outbox origin) = waiting_of boxes origin
standing_in links channels boxes (Egress direction) = egress_of (channel_in links channels direction)
standing_in links channels boxes (Wire direction) = wire_of (channel_in links channels direction)
standing_in links channels boxes (Ingress direction) = ingress_of (channel_in links channels direction)

-- ---- the directions of a link, and their places

abbrev pub up : ℕ → Direction
up link = record { lower = link; way = Up }

abbrev pub down : ℕ → Direction
down link = record { lower = link; way = Down }

-- a direction's, its receiver's first
abbrev pub places_on : Direction → List Place
places_on direction = Ingress direction ∷ Wire direction ∷ Egress direction ∷ []

-- ---- one packet

-- is it the packet of this number of this domain?
abbrev pub is_numbered : ℕ → ℕ → Descriptor → Bool
is_numbered domain n frame = (frame.domain == domain) && (frame.number == n)
