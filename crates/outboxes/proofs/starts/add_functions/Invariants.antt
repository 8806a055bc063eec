use Rattle.std.proofs.Common.{◌≡◌, ◌++◌, map, take}
use Rattle.outboxes.specs.Outboxes.{function_box}
use Rattle.outboxes.proofs.starts.add_functions.Given as goal

abbrev pub invariant-loop-line : goal.invariant-loop-line
invariant-loop-line l = l.boxes.items ≡ l.initial.boxes.items ++ map (function_box l.layout) (take l.line-index l.line-items)
