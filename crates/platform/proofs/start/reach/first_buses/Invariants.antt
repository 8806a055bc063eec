use Rattle.std.proofs.Common.{◌≡◌, true, length, take}
use Rattle.std.specs.List.{list_all}
use Rattle.platform.specs.Reach.{is_noted}
use Rattle.platform.proofs.start.reach.first_buses.Given as goal

-- the buses of the ports so far are noted
abbrev pub invariant-loop-port : goal.invariant-loop-port
invariant-loop-port l = (length l.buses ≡ 256) × (list_all (is_noted l.buses l.bus) (take l.port-index l.ports) ≡ true)
