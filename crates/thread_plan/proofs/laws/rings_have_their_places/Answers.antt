use Rattle.thread_plan.specs.Routes.{credit_routes, link_routes, pair_routes}
use Rattle.thread_plan.specs.Workers.{workers_of}
use Rattle.thread_plan.proofs.Counted.{places_of}
use Rattle.thread_plan.proofs.laws.rings_have_their_places.Goals as goal

pub returns : goal.returns
returns c = record {
  links = λ platform. places_of (workers_of platform) 381 (link_routes platform);
  credits = λ platform. places_of (workers_of platform) 16 (credit_routes platform);
  pairs = λ platform. places_of (workers_of platform) 16 (pair_routes platform);
}
