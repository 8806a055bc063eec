use Rattle.fabric_core.proofs.runs.LeftRuns.{taken_out}
use Rattle.fabric_core.proofs.laws.other_domains_can_be_taken_out.Goals as goal

pub returns : goal.returns
returns c = taken_out
