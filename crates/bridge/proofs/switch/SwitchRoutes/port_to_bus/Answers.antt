use Rattle.std.proofs.Common.{◌≡◌, ◌<◌, ◌∙◌, ap, length, arith}
use Rattle.bridge.specs.Groups.{Group, port_to_bus_of}
use Rattle.bridge.proofs.Tables.{length-table_of, table_of-read}
use Rattle.bridge.proofs.switch.SwitchRoutes.port_to_bus.Goals as goal

pub index-requires : goal.index-requires
index-requires c =
    let long : length c.self.inside.table.items ≡ 256 = ap length c.self.invariant ∙ length-table_of 256 (port_to_bus_of c.self.inside.ports) in
    omega (arith, c.ranges.bus.fits)

pub returns : goal.returns
returns c =
    let within : c.from.result < 256 = omega (arith, c.ranges.bus.fits) in
    table_of-read 256 (port_to_bus_of c.self.inside.ports) c.self.inside.table.items c.from.result c.index.result.now c.self.invariant within c.index.ensures
    ∙ ap (port_to_bus_of c.self.inside.ports) c.from.ensures ∙ ap (λ (group : Group). port_to_bus_of group.ports c.args.bus) c.self.view_is
