use Rattle.std.proofs.Common.{◌≡◌, ◌≤◌}
use Rattle.drawing.specs.Placing.{columns_before}
use Rattle.drawing.proofs.placing.columns_before.Given as goal

-- the buses so far are counted
abbrev pub invariant-loop-other : goal.invariant-loop-other
invariant-loop-other l = (l.columns ≡ columns_before l.ports l.other) × (l.columns ≤ l.other)
