use Rattle.std.proofs.Common.{◌≡◌, ◌++◌, map, take}
use Rattle.std.specs.List.{filter}
use Rattle.platform.specs.Tree.{is_on_bus}
use Rattle.thread_plan.specs.Workers.{downstream_worker}
use Rattle.thread_plan.proofs.pairs.add_lanes_down.Given as goal

abbrev pub invariant-loop-port : goal.invariant-loop-port
invariant-loop-port l = l.lanes.items ≡ l.initial.lanes.items ++ map downstream_worker (filter (is_on_bus l.bus) (take l.port-index l.port-items))
