use Rattle.fabric_core.proofs.progress.Elsewhere.{still_elsewhere}
use Rattle.fabric_core.proofs.laws.nothing_moves_elsewhere.Goals as goal

pub returns : goal.returns
returns c w idle = still_elsewhere w idle
