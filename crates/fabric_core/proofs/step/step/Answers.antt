use Rattle.std.proofs.Common.{rules}
use Rattle.fabric_core.proofs.step.step.Goals as goal

pub returns-in-Credit-clause-steps : goal.returns-in-Credit-clause-steps
returns-in-Credit-clause-steps c = search rules
