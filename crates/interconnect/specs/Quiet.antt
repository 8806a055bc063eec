-- Where nothing can happen on one direction of a link before something else does.
use Rattle.std.specs.Prelude.{Bool, true, List, Option, Some, None}
use Rattle.link.specs.Channels.{Channel}
use Rattle.link.specs.Quiet.{is_quiet, none_eligible}
use Rattle.topology.specs.declared.nodes.LinkEnd.{LinkEnd}
use Rattle.interconnect.specs.Moves.{channel_at}

-- the direction that is sent from this end is quiet, if there is such an end
abbrev pub is_quiet_at : List (List Channel) → Option LinkEnd → Bool
is_quiet_at nodes None = true
is_quiet_at nodes (Some end) = is_quiet (channel_at nodes end)

-- of what that direction brought nothing may leave, whatever its class
abbrev pub none_received_at : List (List Channel) → Option LinkEnd → Bool
none_received_at nodes None = true
none_received_at nodes (Some end) = none_eligible (channel_at nodes end).ingress
