use Rattle.commands.proofs.ScriptFiles.{next_file, none_added}
use Rattle.commands.proofs.explain_scripts.write_pair.Goals as goal

pub loop-index-init : goal.loop-index-init
loop-index-init g c = none_added _

pub loop-index-preserved : goal.loop-index-preserved
loop-index-preserved g c =
    let items = c.deref-witness-items.ensures.value in
    next_file c.args.folder.now c.args.remarks.now c.args.pair.now.witnesses.items c.loop-index.index c.witness-item.result _ _ _ (rw items at c.loop-index-test.true) (rw items at c.witness-item.is)
    c.loop-index.invariant c.in_ok-write_one.ensures.ok
