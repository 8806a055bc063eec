use Rattle.reports.proofs.Writing.{lines_next}
use Rattle.findings_text.specs.Witnesses.{pair_lines}
use Rattle.findings_text.proofs.findings.write_pairs.Goals as goal

pub loop-pair-preserved : goal.loop-pair-preserved
loop-pair-preserved g c =
    lines_next (pair_lines c.args.remarks.now.names) c.args.pairs.now c.loop-pair.pair-index c.pair-item.result _ _ _ c.loop-pair-test.true c.pair-item.is c.loop-pair.invariant c.in_ok-write_pair.ensures
