use Rattle.drawing.proofs.Lists.{each_inside_next, each_next}
use Rattle.drawing.specs.Figures.{function_figure}
use Rattle.drawing.proofs.drawing.write_functions.Goals as goal

pub loop-function-preserved : goal.loop-function-preserved
loop-function-preserved g c =
    let before = c.loop-function.invariant in
    let now = c.in_ok-write_function.ensures in record {
      written = each_next (function_figure c.args.ports.now) _ c.loop-function.function-index c.function-item.result _ _ _ c.loop-function-test.true c.function-item.is before.written now.written;
      inside = each_inside_next _ _ (function_figure c.args.ports.now) _ c.loop-function.function-index c.function-item.result c.loop-function-test.true c.function-item.is before.inside now.inside;
    }
