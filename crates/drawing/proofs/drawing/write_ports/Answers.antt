use Rattle.drawing.proofs.Lists.{each_inside_next, each_next}
use Rattle.drawing.specs.Ports.{port_figure}
use Rattle.drawing.proofs.drawing.write_ports.Goals as goal

pub loop-port-preserved : goal.loop-port-preserved
loop-port-preserved g c =
    let before = c.loop-port.invariant in
    let now = c.in_ok-write_port.ensures in record {
      written = each_next (port_figure c.args.layout.now) _ c.loop-port.port-index c.port-item.result _ _ _ c.loop-port-test.true c.port-item.is before.written now.written;
      inside = each_inside_next _ _ (port_figure c.args.layout.now) _ c.loop-port.port-index c.port-item.result c.loop-port-test.true c.port-item.is before.inside now.inside;
    }
