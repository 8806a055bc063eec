use Rattle.std.proofs.Common.{map}
use Rattle.std.specs.Io.KnownBytes.{Appends}
use Rattle.std.specs.Map.Iter.{deref_pair}
use Rattle.threads_command.specs.Refusals.{refused_lines}
use Rattle.threads_command.proofs.refusals.Refusals.write.Given as goal

-- the lines so far are written
abbrev pub invariant-loop-id : goal.invariant-loop-id
invariant-loop-id g l = Appends (g.W.Write.contents l.initial.out) (g.W.Write.contents l.out) (refused_lines (map deref_pair l.yielded))
