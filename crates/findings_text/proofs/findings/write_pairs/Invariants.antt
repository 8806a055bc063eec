use Rattle.std.proofs.Common.{take}
use Rattle.std.specs.Io.KnownBytes.{Appends}
use Rattle.std.specs.List.{flat_map}
use Rattle.findings_text.specs.Witnesses.{pair_lines}
use Rattle.findings_text.proofs.findings.write_pairs.Given as goal

-- the pairs so far are written
abbrev pub invariant-loop-pair : goal.invariant-loop-pair
invariant-loop-pair g l = Appends (g.W.Write.contents l.initial.out) (g.W.Write.contents l.out) (flat_map (pair_lines l.remarks.names) (take l.pair-index l.pairs))
