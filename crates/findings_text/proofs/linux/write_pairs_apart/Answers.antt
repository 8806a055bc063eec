use Rattle.reports.proofs.Writing.{lines_next}
use Rattle.findings_text.specs.Linux.{apart_line}
use Rattle.findings_text.proofs.linux.write_pairs_apart.Goals as goal

pub loop-pair-preserved : goal.loop-pair-preserved
loop-pair-preserved g c =
    lines_next (apart_line c.args.members.now) c.args.pairs.now c.loop-pair.pair-index c.pair-item.result _ _ _ c.loop-pair-test.true c.pair-item.is c.loop-pair.invariant c.in_ok-write_apart.ensures
