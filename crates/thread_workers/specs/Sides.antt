-- One side of a link, as a contract sees it.
use Rattle.std.specs.Prelude.{List}
use Rattle.frame_log.specs.Descriptor.{Descriptor}
use Rattle.credit.specs.declared.counters.Counters.{Counters}
use Rattle.lane.specs.Queues.{frames_of}
use Rattle.link.specs.Ends.{EgressView, IngressView}

pub record LinkSideView : Type 0 where
  pub egress : EgressView  -- what waits to be sent, and the sender's counters
  pub ingress : IngressView  -- what has come, and the receiver's counters
  pub advertised : Counters  -- the limits that were advertised to the other side last

-- the packets that wait to be sent, and those that have come, oldest first
abbrev pub leaving : LinkSideView → List Descriptor
leaving side = frames_of side.egress.queue.queue.waiting

abbrev pub landed : LinkSideView → List Descriptor
landed side = frames_of side.ingress.queue.queue.waiting
