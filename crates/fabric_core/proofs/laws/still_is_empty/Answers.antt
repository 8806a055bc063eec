use Rattle.fabric_core.proofs.progress.Drained.{never_blocks}
use Rattle.fabric_core.proofs.laws.still_is_empty.Goals as goal

pub returns : goal.returns
returns c = never_blocks
