use Rattle.thread_plan.proofs.Counted.{credit_down, credit_up, link_down, link_up, many_credits, many_links}
use Rattle.thread_plan.proofs.laws.each_direction_has_its_rings.Goals as goal

pub returns : goal.returns
returns c = record {
  links = many_links;
  credits = many_credits;
  up = link_up;
  down = link_down;
  credits_down = credit_down;
  credits_up = credit_up;
}
