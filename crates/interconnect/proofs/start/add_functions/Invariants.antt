use Rattle.std.proofs.Common.{◌≡◌, ◌++◌, map, take}
use Rattle.interconnect.specs.Starts.{function_outputs}
use Rattle.interconnect.proofs.start.add_functions.Given as goal

abbrev pub invariant-loop-function : goal.invariant-loop-function
invariant-loop-function l = l.nodes.items ≡ l.initial.nodes.items ++ map (function_outputs l.layout) (take l.function-index l.function-items)
