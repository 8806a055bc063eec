-- Where nothing can happen on a direction of a link before something else does.
use Rattle.std.specs.Prelude.{Bool, ◌&&◌, List, slice_get, is_none}
use Rattle.frame_log.specs.Descriptor.{Descriptor}
use Rattle.lane.specs.Lanes.{Class, eligible}
use Rattle.link.specs.Channels.{Channel, update_fc}

-- of these packets none may leave, whatever its class
abbrev pub none_eligible : List Descriptor → Bool
none_eligible waiting = is_none (eligible Class.Posted waiting) && (is_none (eligible Class.NonPosted waiting) && is_none (eligible Class.Completion waiting))

-- no packet may be sent, none travels, and the sender knows the receiver's present credits
abbrev pub is_quiet : Channel → Bool
is_quiet c = none_eligible c.egress && (is_none (slice_get c.wire 0) && is_none (update_fc c))
