use Rattle.reports.proofs.Writing.{lines_next}
use Rattle.findings_text.specs.Witnesses.{witness_text}
use Rattle.findings_text.proofs.findings.write_witnesses.Goals as goal

pub loop-witness-preserved : goal.loop-witness-preserved
loop-witness-preserved g c =
    lines_next (witness_text c.args.remarks.now.names) c.args.witnesses.now c.loop-witness.witness-index c.witness-item.result _ _ _ c.loop-witness-test.true c.witness-item.is c.loop-witness.invariant c.in_ok-write_witness.ensures
