use Rattle.std.proofs.Common.{rules}
use Rattle.thread_workers.proofs.link_side.LinkSide.send_each.Goals as goal

pub returns : goal.returns
returns c = record {
  sent = record {
    side1 = c.try_to_send-posted.new.self;
    links1 = c.try_to_send-posted.new.links;
    side2 = c.try_to_send-non_posted.new.self;
    links2 = c.try_to_send-non_posted.new.links;
    is_posted = c.try_to_send-posted.result;
    is_non_posted = c.try_to_send-non_posted.result;
    is_completion = c.try_to_send-completion.result;
    posted = c.try_to_send-posted.ensures.tried;
    non_posted = c.try_to_send-non_posted.ensures.tried;
    completion = c.try_to_send-completion.ensures.tried;
    any = search rules;
  };
  tags = search rules;
  taken = search rules;
  others = search rules;
}
