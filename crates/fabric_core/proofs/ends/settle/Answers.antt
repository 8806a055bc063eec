use Rattle.std.proofs.Common.{rules}
use Rattle.fabric_core.proofs.ends.settle.Goals as goal

pub returns-in-Err-Stray : goal.returns-in-Err-Stray
returns-in-Err-Stray c = search rules
