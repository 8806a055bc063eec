use Rattle.std.proofs.Common.{sym, ◌∙◌}
use Rattle.lane.specs.Queues.{frames_of}
use Rattle.link.proofs.Quiet.{none_waits}
use Rattle.link.proofs.steps.is_queue_empty.Goals as goal

pub returns : goal.returns
returns g c = c.is_empty.ensures ∙ sym (none_waits (frames_of c.args.queue.now.queue.waiting))
