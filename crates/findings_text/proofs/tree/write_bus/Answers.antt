use Rattle.findings_text.specs.Tree.{parts_of}
use Rattle.findings_text.proofs.Buses.{bus_written}
use Rattle.findings_text.proofs.tree.write_bus.Goals as goal

pub returns : goal.returns
returns g c =
    bus_written (parts_of c.args.tree.now) c.args.bus c.levels_above-depth.result _ _ _ _ _ _ _ c.levels_above-depth.ensures.value c.port_with_secondary-port.ensures
    c.switch_on-switch.ensures c.function_on-function.ensures c.in_ok-write_port.ensures c.in_ok-write_switch.ensures c.in_ok-write_function.ensures
