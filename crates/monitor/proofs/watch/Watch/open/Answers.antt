use Rattle.monitor.proofs.Rules.{begins}
use Rattle.monitor.proofs.watch.Watch.open.Goals as goal

pub ruled-requires-clause-rule : goal.ruled-requires-clause-rule
ruled-requires-clause-rule c = begins
