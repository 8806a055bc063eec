use Rattle.std.proofs.Common.{◌≡◌, ◌++◌, take}
use Rattle.std.specs.List.{flat_map}
use Rattle.thread_plan.specs.Routes.{routes_from}
use Rattle.thread_plan.proofs.pairs.add_routes_between.Given as goal

abbrev pub invariant-loop-from : goal.invariant-loop-from
invariant-loop-from l = l.routes.items ≡ l.initial.routes.items ++ flat_map (routes_from l.lanes) (take l.from-index l.lanes)
