use Rattle.thread_plan.proofs.Laid.{credits_named, links_named, pairs_named}
use Rattle.thread_plan.proofs.laws.every_route_has_its_wire.Goals as goal

pub returns : goal.returns
returns c = record {
  links = links_named;
  credits = credits_named;
  pairs = pairs_named;
}
