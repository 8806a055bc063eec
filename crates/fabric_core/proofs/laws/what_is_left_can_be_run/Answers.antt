use Rattle.fabric_core.proofs.runs.LeftRuns.{can_be_left}
use Rattle.fabric_core.proofs.laws.what_is_left_can_be_run.Goals as goal

pub returns : goal.returns
returns c = can_be_left
