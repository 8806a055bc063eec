use Rattle.drawing.proofs.Lists.{each_inside_next, each_next}
use Rattle.drawing.specs.Figures.{switch_figure}
use Rattle.drawing.proofs.drawing.write_switches.Goals as goal

pub loop-switch-preserved : goal.loop-switch-preserved
loop-switch-preserved g c =
    let before = c.loop-switch.invariant in
    let now = c.in_ok-write_switch.ensures in record {
      written = each_next (switch_figure c.args.ports.now) _ c.loop-switch.switch-index c.switch-item.result _ _ _ c.loop-switch-test.true c.switch-item.is before.written now.written;
      inside = each_inside_next _ _ (switch_figure c.args.ports.now) _ c.loop-switch.switch-index c.switch-item.result c.loop-switch-test.true c.switch-item.is before.inside now.inside;
    }
