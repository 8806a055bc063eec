use Rattle.std.proofs.Common.{arith}
use Rattle.drawing.specs.Placing.{leads_to}
use Rattle.drawing.proofs.Counting.{count_more}
use Rattle.drawing.proofs.placing.switch_width.Goals as goal

pub returns-clause-inside : goal.returns-clause-inside
returns-clause-inside c = count_more (leads_to c.args.ports.now) _ 256 (rw (← c.last_bus.ensures) (omega arith))
