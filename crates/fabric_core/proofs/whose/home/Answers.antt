use Rattle.std.proofs.Common.{rules}
use Rattle.fabric_core.proofs.whose.home.Goals as goal

pub returns-in-Arrive : goal.returns-in-Arrive
returns-in-Arrive c = search rules
