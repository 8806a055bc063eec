use Rattle.std.proofs.Common.{◌≡◌}
use Rattle.port_threads.specs.Kept.{monitor_kept}
use Rattle.port_threads.proofs.monitor_worker.Monitor.take_all.Given as goal

abbrev pub invariant-loop : goal.invariant-loop
invariant-loop l = monitor_kept l.self ≡ monitor_kept l.fn.self
