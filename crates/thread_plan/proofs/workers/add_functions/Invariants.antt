use Rattle.std.proofs.Common.{◌≡◌, ◌++◌, map, take}
use Rattle.thread_plan.specs.Workers.{function_worker}
use Rattle.thread_plan.proofs.workers.add_functions.Given as goal

abbrev pub invariant-loop-line : goal.invariant-loop-line
invariant-loop-line l = l.workers.items ≡ l.initial.workers.items ++ map function_worker (take l.line-index l.line-items)
