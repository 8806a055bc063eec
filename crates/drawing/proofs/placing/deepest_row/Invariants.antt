use Rattle.std.proofs.Common.{◌≡◌, ◌≤◌}
use Rattle.drawing.specs.Placing.{greatest_below, row_of}
use Rattle.drawing.proofs.placing.deepest_row.Given as goal

-- the greatest row of the buses so far
abbrev pub invariant-loop-bus : goal.invariant-loop-bus
invariant-loop-bus l = (l.deepest ≡ greatest_below (row_of l.ports) l.bus) × (l.deepest ≤ 3)
