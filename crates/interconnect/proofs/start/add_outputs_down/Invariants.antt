use Rattle.std.proofs.Common.{◌≡◌, ◌++◌, map, take}
use Rattle.std.specs.List.{filter}
use Rattle.platform.specs.Tree.{is_on_bus}
use Rattle.platform.specs.Tree.{id_below}
use Rattle.interconnect.specs.Starts.{unused_below}
use Rattle.interconnect.proofs.start.add_outputs_down.Given as goal

abbrev pub invariant-loop-port : goal.invariant-loop-port
invariant-loop-port l = l.outputs.items ≡ l.initial.outputs.items ++ map (λ port. unused_below l.layout (id_below port)) (filter (is_on_bus l.bus) (take l.port-index l.port-items))
