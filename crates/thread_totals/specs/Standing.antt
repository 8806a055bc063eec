-- The packets that a fabric in threads left: in the hands of its workers, and in the rings between them.
use Rattle.std.specs.Prelude.{ℕ, ◌==◌, Bool, ◌&&◌, ◌++◌, List, map, option_to_list}
use Rattle.std.specs.List.{flat_map}
use Rattle.frame_log.specs.Descriptor.{Descriptor}
use Rattle.thread_workers.specs.Sides.{LinkSideView, landed, leaving}
use Rattle.outboxes.specs.Outboxes.{waiting}
use Rattle.thread_workers.specs.declared.host.domain_host.DomainHost.{DomainHost}
use Rattle.switch_output.specs.Vetted.{Vetted}
use Rattle.thread_rings.specs.declared.ring_tally.RingTally.{RingTally}
use Rattle.thread_staff.specs.declared.remains.Parts.{Parts}
use Rattle.thread_staff.specs.declared.remains.Parts.TheVariants as parts
use Rattle.thread_staff.specs.declared.remains.Remains.{Remains}

-- at a side of a link: what waits to be sent, and what has come
abbrev pub at_side : LinkSideView → List Descriptor
at_side side = leaving side ++ landed side

abbrev pub in_outbox : DomainHost → List Descriptor
in_outbox host = waiting host.outbox

-- what a worker had in its hands: in outboxes, in the queues of its link, an answer that its port keeps, and its strays
abbrev pub in_parts : Parts → List Descriptor
in_parts (parts.Port left) = at_side left.side ++ option_to_list left.port.kept ++ left.port.strays
in_parts (parts.Function left) = waiting left.outbox ++ at_side left.side ++ left.strays.items
in_parts (parts.Host left) = flat_map in_outbox left.hosts.items ++ at_side left.side ++ left.strays.items

abbrev pub in_hands : Remains → List Descriptor
in_hands remains = in_parts remains.parts

-- what is left in a ring of a link, and in one between two ports of a switch
abbrev pub in_link : RingTally Descriptor → List Descriptor
in_link ring = ring.left.items

abbrev pub in_pair : RingTally Vetted → List Descriptor
in_pair ring = map (λ packet. packet.frame) ring.left.items

-- all of them
abbrev pub frames_left : List Remains → List (RingTally Descriptor) → List (RingTally Vetted) → List Descriptor
frames_left remains links pairs = flat_map in_hands remains ++ flat_map in_link links ++ flat_map in_pair pairs

-- ---- one packet

-- is it a packet that this domain made?
abbrev pub is_of : ℕ → Descriptor → Bool
is_of domain frame = frame.domain == domain

-- is it the one of this number?
abbrev pub is_numbered : ℕ → ℕ → Descriptor → Bool
is_numbered domain n frame = (frame.domain == domain) && (frame.number == n)
