use Rattle.std.proofs.Common.{◌≡◌, ◌++◌, map, take}
use Rattle.port.specs.Configs.{downstream_config}
use Rattle.interconnect.specs.Starts.{idle_port}
use Rattle.interconnect.proofs.start.add_downstream.Given as goal

abbrev pub invariant-loop-line : goal.invariant-loop-line
invariant-loop-line l = l.ports.items ≡ l.initial.ports.items ++ map (λ port. idle_port (downstream_config l.layout port)) (take l.line-index l.line-items)
