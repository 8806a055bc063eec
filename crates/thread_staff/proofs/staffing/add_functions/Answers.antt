use Rattle.thread_staff.proofs.Placed.{has_domain}
use Rattle.thread_staff.proofs.staffing.add_functions.Goals as goal

pub function_post-requires-clause-placed : goal.function_post-requires-clause-placed
function_post-requires-clause-placed c =
    let lines = c.functions-line-items in
    has_domain c.args.layout.now lines.result.now c.loop-line.line-index c.line-item.result lines.ensures.laws lines.ensures.value c.loop-line-test.true c.line-item.is
