use Rattle.reports.proofs.Writing.{lines_next}
use Rattle.findings_text.specs.Idle.{idle_lines}
use Rattle.findings_text.proofs.idle_lines.write_idle_of_all.Goals as goal

pub loop-port-preserved : goal.loop-port-preserved
loop-port-preserved g c =
    lines_next (idle_lines c.args.remarks.now.names c.args.ports.now c.args.pairs.now) c.args.ports.now c.loop-port.port-index c.port-item.result _ _ _ c.loop-port-test.true c.port-item.is c.loop-port.invariant c.in_ok-write_idle_of_port.ensures
