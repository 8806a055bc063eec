use Rattle.std.proofs.Common.{rules}
use Rattle.fabric_core.proofs.quiet.is_quiet.Goals as goal

pub returns-in-Link : goal.returns-in-Link
returns-in-Link c = search rules
