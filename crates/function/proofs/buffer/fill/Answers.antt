use Rattle.std.proofs.Common.{refl}
use Rattle.function.proofs.Filling.{fill_is}
use Rattle.function.proofs.buffer.fill.Goals as goal

pub returns : goal.returns
returns c = fill_is c.args.page.now c.overwrite.new.cells _ c.args.bytes.now c.args.offset refl c.overwrite.ensures
