use Rattle.monitor.proofs.Rules.{admits, monitor_view_of}
use Rattle.monitor.proofs.watch.Watch.admit.Goals as goal

pub another-pass-requires-clause-rule : goal.another-pass-requires-clause-rule
another-pass-requires-clause-rule c = admits _ _ (monitor_view_of _ _ _ c.self.invariant.is_monitor)
