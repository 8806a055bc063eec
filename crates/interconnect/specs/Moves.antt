-- What happens to one direction of a link, among all others.
use Rattle.std.specs.Prelude.{List, [], ◌∷◌, ◌++◌, slice_index_or, slice_set, Option, Some, None, option_map}
use Rattle.credit.specs.Limits.{zero_counters}
use Rattle.frame_log.specs.Descriptor.{Descriptor}
use Rattle.link.specs.Channels.{Channel, with_egress}
use Rattle.topology.specs.declared.nodes.LinkEnd.{LinkEnd}

abbrev pub no_channel : Channel
no_channel = record { start = zero_counters; left = zero_counters; egress = []; wire = []; ingress = [] }

-- the direction that is sent from an end
abbrev pub channel_at : List (List Channel) → LinkEnd → Channel
channel_at nodes end = slice_index_or (slice_index_or nodes end.node []) end.output no_channel

abbrev pub with_channel : List (List Channel) → LinkEnd → Channel → List (List Channel)
with_channel nodes end c = slice_set nodes end.node (slice_set (slice_index_or nodes end.node []) end.output c)

-- something may happen to the direction of an end, if there is such an end
abbrev pub on_channel : List (List Channel) → Option LinkEnd → (Channel → Option Channel) → Option (List (List Channel))
on_channel nodes None step = None
on_channel nodes (Some end) step = option_map (with_channel nodes end) (step (channel_at nodes end))

abbrev pub with_ingress : Channel → List Descriptor → Channel
with_ingress c ingress = record { start = c.start; left = c.left; egress = c.egress; wire = c.wire; ingress = ingress }

-- one packet more waits at the sender
abbrev pub put_at : List (List Channel) → LinkEnd → Descriptor → List (List Channel)
put_at nodes end frame = with_channel nodes end (with_egress (channel_at nodes end) ((channel_at nodes end).egress ++ frame ∷ []))

-- this is left at the receiver
abbrev pub left_at : List (List Channel) → LinkEnd → List Descriptor → List (List Channel)
left_at nodes end waiting = with_channel nodes end (with_ingress (channel_at nodes end) waiting)
