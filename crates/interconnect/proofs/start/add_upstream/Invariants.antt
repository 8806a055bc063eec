use Rattle.std.proofs.Common.{◌≡◌, ◌++◌, map, take}
use Rattle.port.specs.Configs.{upstream_config}
use Rattle.interconnect.specs.Starts.{idle_port}
use Rattle.interconnect.proofs.start.add_upstream.Given as goal

abbrev pub invariant-loop-switch : goal.invariant-loop-switch
invariant-loop-switch l = l.ports.items ≡ l.initial.ports.items ++ map (λ switch. idle_port (upstream_config l.layout switch)) (take l.switch-index l.switch-items)
