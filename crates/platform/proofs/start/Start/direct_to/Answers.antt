use Rattle.std.proofs.Common.{ap, sym, ◌∙◌}
use Rattle.fab_types.specs.Id.{bus_of}
use Rattle.platform.specs.Buses.{controls_egress_above}
use Rattle.platform.specs.declared.start.buses.BusEntry.{BusEntry}
use Rattle.platform.proofs.Led.{nothing-direct}
use Rattle.platform.proofs.start.Start.direct_to.Goals as goal

-- no port above controls egress
pub returns-else-bus : goal.returns-else-bus
returns-else-bus c =
    let ports = c.args.self.now.ports in
    let off = ap (controls_egress_above ports) (sym c.bus.ensures) ∙ sym (ap (λ (e : BusEntry). e.controls_egress) c.bus-2.ensures) ∙ c.if-bus.false in
    sym (nothing-direct ports (bus_of c.args.function) c.args.address ports off)
