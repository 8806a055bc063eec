use Rattle.std.proofs.Common.{◌≡◌, ◌++◌, map, take}
use Rattle.thread_plan.specs.Routes.{route}
use Rattle.thread_plan.proofs.pairs.add_routes_from.Given as goal

abbrev pub invariant-loop-to : goal.invariant-loop-to
invariant-loop-to l = l.routes.items ≡ l.initial.routes.items ++ map (route l.from) (take l.to-index l.lanes)
