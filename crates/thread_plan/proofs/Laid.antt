-- Read by the names of the workers, the tables of a plan are its routes.
use Rattle.std.proofs.Common.{◌≡◌, map}
use Rattle.platform.specs.Platform.{Platform}
use Rattle.thread_plan.specs.Plans.{plan_of, route_of}
use Rattle.thread_plan.specs.Routes.{credit_routes, link_routes, pair_routes}
use Rattle.thread_plan.specs.Workers.{workers_of}
use Rattle.thread_plan.proofs.Named.{wires_named}
use Rattle.thread_plan.proofs.Routed.{credits_listed, links_listed, pairs_listed}

pub links_named : (platform : Platform) → map (route_of (workers_of platform)) (plan_of platform).links ≡ link_routes platform
links_named platform = wires_named (workers_of platform) 381 (link_routes platform) (links_listed platform)

pub credits_named : (platform : Platform) → map (route_of (workers_of platform)) (plan_of platform).credits ≡ credit_routes platform
credits_named platform = wires_named (workers_of platform) 16 (credit_routes platform) (credits_listed platform)

pub pairs_named : (platform : Platform) → map (route_of (workers_of platform)) (plan_of platform).pairs ≡ pair_routes platform
pairs_named platform = wires_named (workers_of platform) 16 (pair_routes platform) (pairs_listed platform)
