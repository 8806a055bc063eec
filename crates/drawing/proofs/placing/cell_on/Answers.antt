use Rattle.std.proofs.Common.{arith}
use Rattle.drawing.specs.Placing.{leads_to, row_of}
use Rattle.drawing.proofs.Counting.{count_more, greatest_at}
use Rattle.drawing.proofs.placing.cell_on.Goals as goal

pub returns-clause-inside : goal.returns-clause-inside
returns-clause-inside c = (
  rw c.columns_before.ensures.value (count_more (leads_to c.args.ports.now) _ 256 (omega arith)),
  rw c.row_of.ensures.value (greatest_at (row_of c.args.ports.now) c.args.bus 256 (omega arith)),
)
