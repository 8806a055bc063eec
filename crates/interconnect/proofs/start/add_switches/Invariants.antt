use Rattle.std.proofs.Common.{◌≡◌, ◌++◌, map, take}
use Rattle.interconnect.specs.Starts.{switch_outputs}
use Rattle.interconnect.proofs.start.add_switches.Given as goal

abbrev pub invariant-loop-switch : goal.invariant-loop-switch
invariant-loop-switch l = l.nodes.items ≡ l.initial.nodes.items ++ map (switch_outputs l.layout) (take l.switch-index l.switch-items)
