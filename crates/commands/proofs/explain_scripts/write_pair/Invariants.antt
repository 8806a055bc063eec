use Rattle.std.proofs.Common.{take}
use Rattle.inputs.specs.Files.{Adds}
use Rattle.commands.specs.ExplainScripts.{files_from}
use Rattle.commands.proofs.explain_scripts.write_pair.Given as goal

-- the files so far are written
abbrev pub invariant-loop-index : goal.invariant-loop-index
invariant-loop-index g l = Adds (g.T.FileTaker.written l.initial.taker) (g.T.FileTaker.written l.taker) (files_from l.folder l.remarks 1 (take l.index l.pair.witnesses.items))
