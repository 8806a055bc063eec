use Rattle.std.proofs.Common.{◌+◌, ◌-◌, arith}
use Rattle.function.proofs.Filling.{overwrite_is}
use Rattle.function.proofs.buffer.overwrite.Goals as goal

pub returns-then-offset-cells : goal.returns-then-offset-cells
returns-then-offset-cells c = overwrite_is c.args.cells.now c.copy_from_slice.new.self c.args.bytes.now c.args.offset c.min-count.result (c.args.offset + c.min-count.result - c.args.offset) c.if-offset-cells.true c.min-count.ensures (omega arith) c.copy_from_slice.ensures.after
