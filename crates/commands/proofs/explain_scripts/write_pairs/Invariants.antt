use Rattle.std.proofs.Common.{take}
use Rattle.std.specs.List.{flat_map}
use Rattle.inputs.specs.Files.{Adds}
use Rattle.commands.specs.ExplainScripts.{pair_files}
use Rattle.commands.proofs.explain_scripts.write_pairs.Given as goal

-- the files so far are written
abbrev pub invariant-loop-pair : goal.invariant-loop-pair
invariant-loop-pair g l = Adds (g.T.FileTaker.written l.initial.taker) (g.T.FileTaker.written l.taker) (flat_map (pair_files l.folder l.remarks) (take l.pair-index l.pairs))
