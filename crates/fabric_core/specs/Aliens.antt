-- Who gets the entry of a packet that its home has no case for where it is taken. Only layouts in which a port lacks one of
-- the five controls have such packets.
use Rattle.std.specs.Prelude.{ℕ, List, Option, Some, None}
use Rattle.fab_types.specs.declared.place.Direction.{Direction}
use Rattle.fab_types.specs.declared.place.Place.TheVariants.{Ingress}
use Rattle.fab_types.specs.declared.place.Way.TheVariants.{Up, Down}
use Rattle.frame_log.specs.Descriptor.{Descriptor}
use Rattle.platform.specs.declared.parts.DownstreamPort.{DownstreamPort}
use Rattle.received.specs.Receivers.{receiver_at_host}
use Rattle.domains.specs.Agents.{AgentsView, aliened_at_function, aliened_at_host}
use Rattle.domains.specs.Aliens.{owner_of_frame}

-- the link between the host and the top switch
abbrev pub to_host : Direction
to_host = record { lower = 0x0100; way = Up }

abbrev pub to_function : ℕ → Direction
to_function function = record { lower = function; way = Down }

-- what the entry makes of the agents; none where the layout has no such entries
abbrev pub alien_at_host : List DownstreamPort → AgentsView → Descriptor → Option AgentsView
alien_at_host ports agents frame = aliened_at_host agents (receiver_at_host ports (owner_of_frame agents.domains) frame) (Ingress to_host) frame

abbrev pub alien_at_function : AgentsView → ℕ → Descriptor → Option AgentsView
alien_at_function agents function frame = aliened_at_function agents function (Ingress (to_function function)) frame

-- the one that its home's machine makes, or else this
abbrev pub or_else : Option AgentsView → Option AgentsView → Option AgentsView
or_else None other = other
or_else (Some agents) other = Some agents
