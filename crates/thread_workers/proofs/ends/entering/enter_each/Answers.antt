use Rattle.std.proofs.Common.{rules}
use Rattle.lane.specs.Queues.{frames_of}
use Rattle.thread_workers.proofs.ends.entering.enter_each.Goals as goal

pub returns : goal.returns
returns c = record {
  entered = record {
    box1 = c.enter-posted.new.outbox;
    egress1 = frames_of c.enter-posted.new.egress.queue.queue.waiting;
    box2 = c.enter-non_posted.new.outbox;
    egress2 = frames_of c.enter-non_posted.new.egress.queue.queue.waiting;
    is_posted = c.enter-posted.result;
    is_non_posted = c.enter-non_posted.result;
    is_completion = c.enter-completion.result;
    posted = c.enter-posted.ensures.entered;
    non_posted = c.enter-non_posted.ensures.entered;
    completion = c.enter-completion.ensures.entered;
    any = search rules;
  };
  rests = search rules;
  origin = search rules;
  sender = search rules;
}
