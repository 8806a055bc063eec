use Rattle.commands.specs.ExplainScripts.{pair_files}
use Rattle.commands.proofs.ScriptFiles.{next_files, none_added}
use Rattle.commands.proofs.explain_scripts.write_pairs.Goals as goal

pub loop-pair-init : goal.loop-pair-init
loop-pair-init g c = none_added _

pub loop-pair-preserved : goal.loop-pair-preserved
loop-pair-preserved g c =
    next_files (pair_files c.args.folder.now c.args.remarks.now) c.args.pairs.now c.loop-pair.pair-index c.pair-item.result _ _ _ c.loop-pair-test.true c.pair-item.is c.loop-pair.invariant c.in_ok-write_pair.ensures.ok
