use Rattle.std.proofs.Common.{take}
use Rattle.thread_totals.specs.Crossing.{AreCrossedOff}
use Rattle.thread_totals.proofs.crossing.cross_off.Given as goal

abbrev pub invariant-loop-name : goal.invariant-loop-name
invariant-loop-name l = AreCrossedOff l.domain (take l.name-index l.names) l.initial.flying.items l.flying.items
