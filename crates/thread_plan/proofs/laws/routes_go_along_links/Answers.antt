use Rattle.thread_plan.proofs.AtEnds.{lower_workers, upper_workers}
use Rattle.thread_plan.proofs.laws.routes_go_along_links.Goals as goal

pub returns : goal.returns
returns c = record {
  lower = lower_workers;
  upper = upper_workers;
}
