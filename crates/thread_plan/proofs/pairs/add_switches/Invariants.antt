use Rattle.std.proofs.Common.{◌≡◌, ◌++◌, take}
use Rattle.std.specs.List.{flat_map}
use Rattle.thread_plan.specs.Routes.{switch_routes}
use Rattle.thread_plan.proofs.pairs.add_switches.Given as goal

abbrev pub invariant-loop-switch : goal.invariant-loop-switch
invariant-loop-switch l = l.routes.items ≡ l.initial.routes.items ++ flat_map (switch_routes l.layout) (take l.switch-index l.switch-items)
