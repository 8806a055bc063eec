use Rattle.monitor.proofs.Rules.{takes, monitor_view_of}
use Rattle.monitor.proofs.watch.Watch.take.Goals as goal

pub try_pop_as-requires-clause-rule : goal.try_pop_as-requires-clause-rule
try_pop_as-requires-clause-rule c = takes _ _ (monitor_view_of _ _ _ c.self.invariant.is_monitor)
