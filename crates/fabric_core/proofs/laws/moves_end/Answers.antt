use Rattle.fabric_core.proofs.moves.Runs.{moves_end}
use Rattle.fabric_core.proofs.laws.moves_end.Goals as goal

pub returns : goal.returns
returns c = moves_end
