use Rattle.std.proofs.Common.{take}
use Rattle.host_table.specs.Index.{IsIndex}
use Rattle.host_table.proofs.index.index_of.Given as goal

abbrev pub invariant-loop-place : goal.invariant-loop-place
invariant-loop-place l = IsIndex (take l.place l.lines) l.index.items
