use Rattle.fabric_core.proofs.progress.InFlight.{concludes}
use Rattle.fabric_core.proofs.laws.still_is_consumed.Goals as goal

pub returns : goal.returns
returns c = concludes
