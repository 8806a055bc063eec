use Rattle.std.proofs.Common.{take}
use Rattle.std.specs.Io.KnownBytes.{Appends}
use Rattle.std.specs.List.{flat_map}
use Rattle.findings_text.specs.Linux.{group_lines}
use Rattle.findings_text.proofs.linux.write_groups.Given as goal

-- the groups so far are written
abbrev pub invariant-loop-member : goal.invariant-loop-member
invariant-loop-member g l = Appends (g.W.Write.contents l.initial.out) (g.W.Write.contents l.out) (flat_map (group_lines l.remarks.names l.members) (take l.member-index l.members))
