use Rattle.std.proofs.Common.{◌≡◌, drop}
use Rattle.fab_types.specs.Id.{bus_of}
use Rattle.platform.specs.Egress.{direct_among}
use Rattle.platform.proofs.egress.direct_to.Given as goal

abbrev pub invariant-loop-port : goal.invariant-loop-port
invariant-loop-port l = direct_among l.ports (bus_of l.function) l.address (drop l.port-index l.ports) ≡ direct_among l.ports (bus_of l.function) l.address l.ports
