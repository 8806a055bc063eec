use Rattle.std.proofs.Common.{take}
use Rattle.std.specs.Io.KnownBytes.{Appends}
use Rattle.std.specs.List.{flat_map}
use Rattle.findings_text.specs.Linux.{apart_line}
use Rattle.findings_text.proofs.linux.write_pairs_apart.Given as goal

-- the pairs so far are written
abbrev pub invariant-loop-pair : goal.invariant-loop-pair
invariant-loop-pair g l = Appends (g.W.Write.contents l.initial.out) (g.W.Write.contents l.out) (flat_map (apart_line l.members) (take l.pair-index l.pairs))
