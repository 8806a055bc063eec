use Rattle.std.proofs.Common.{ℕ, ap, sym, ◌∙◌, length}
use Rattle.crossbeam_queue.specs.Passes.{view}
use Rattle.monitor.specs.Order.{port_view}
use Rattle.monitor.specs.Reporting.{ReporterView}
use Rattle.monitor.specs.Watching.{WatchView}
use Rattle.monitor.proofs.Rules.{closes, monitor_view_of}
use Rattle.monitor.proofs.watch.Watch.close.Goals as goal

pub absorb-requires-clause-rule : goal.absorb-requires-clause-rule
absorb-requires-clause-rule c =
    let seat = ap (λ (r : ReporterView). r.seat) c.port.view_is ∙ (c.requires.1 ∙ sym (ap (λ (w : WatchView). length w.ended) c.self.view_is)) in
    closes _ _ _ _ (monitor_view_of _ _ _ c.self.invariant.is_monitor) (c.port.invariant.is_port ∙ ap (λ (n : ℕ). port_view n (view c.port.inside.pass).reported) seat)
