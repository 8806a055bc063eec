use Rattle.std.proofs.Common.{take}
use Rattle.std.specs.Io.KnownBytes.{Appends}
use Rattle.std.specs.List.{flat_map}
use Rattle.findings_text.specs.Witnesses.{witness_text}
use Rattle.findings_text.proofs.findings.write_witnesses.Given as goal

-- the witnesses so far are written
abbrev pub invariant-loop-witness : goal.invariant-loop-witness
invariant-loop-witness g l = Appends (g.W.Write.contents l.initial.out) (g.W.Write.contents l.out) (flat_map (witness_text l.remarks.names) (take l.witness-index l.witnesses))
