-- What an outbox says of a take, said of what waits in it as packets alone.
use Rattle.std.proofs.Common.{◌≡◌, Option, Some, None, ap}
use Rattle.std.specs.Option.{MatchOption}
use Rattle.fab_types.specs.declared.origin.Origin.{Origin}
use Rattle.frame_log.specs.Descriptor.{Descriptor}
use Rattle.port_queue.specs.Outgoing.{Outgoing}
use Rattle.port_queue.specs.Queue.{taken_of}
use Rattle.lane.proofs.Sorting.{none_taken, some_taken}
use Rattle.lane.specs.Lanes.{Class}
use Rattle.lane.specs.Queues.{IsSorted}
use Rattle.outboxes.proofs.Changing.{TookFrom}
use Rattle.outboxes.specs.Outboxes.{BoxView}

abbrev view : Origin → Outgoing Descriptor → BoxView
view origin o = record { origin = origin; queue = o.queue; puts = o.puts; places = o.places }

-- what a take gives and leaves
abbrev pub Took : Class → Outgoing Descriptor → Outgoing Descriptor → Option Descriptor → Type 0
Took c o o' result = MatchOption result ((taken_of c o.queue.waiting ≡ None) × (o' ≡ o)) (λ f. taken_of c o.queue.waiting ≡ Some ((c, f), o'.queue.waiting))

-- the same of the queue alone
pub queue_took : (c : Class) (o o' : Outgoing Descriptor) (result : Option Descriptor) → Took c o o' result
    → MatchOption result ((taken_of c o.queue.waiting ≡ None) × (o'.queue ≡ o.queue)) (λ f. taken_of c o.queue.waiting ≡ Some ((c, f), o'.queue.waiting))
queue_took c o o' None t = (t.0, ap (λ (x : Outgoing Descriptor). x.queue) t.1)
queue_took c o o' (Some f) t = t

pub box_took : (origin : Origin) (c : Class) (o o' : Outgoing Descriptor) (result : Option Descriptor) → IsSorted o.queue.waiting → Took c o o' result → TookFrom c (view origin o) (view origin o') result
box_took origin c o o' None all t = (none_taken c o.queue.waiting all t.0, ap (view origin) t.1)
box_took origin c o o' (Some f) all t = some_taken c o.queue.waiting o'.queue.waiting (c, f) all t
