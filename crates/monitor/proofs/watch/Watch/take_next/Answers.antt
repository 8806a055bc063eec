use Rattle.std.proofs.Common.{ap}
use Rattle.monitor.specs.declared.queue.View.{View}
use Rattle.monitor.proofs.Rules.{takes, learns, monitor_view_of}
use Rattle.monitor.proofs.watch.Watch.take_next.Goals as goal

pub pop_as-requires-clause-rule : goal.pop_as-requires-clause-rule
pop_as-requires-clause-rule g c = (takes _ _ (monitor_view_of _ _ _ c.self.invariant.is_monitor), learns _ _ (ap (λ (v : View). v.is_monitor) c.self.invariant.is_monitor))
