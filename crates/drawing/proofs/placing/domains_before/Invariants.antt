use Rattle.std.proofs.Common.{◌≡◌, ◌≤◌}
use Rattle.drawing.specs.Placing.{domains_before}
use Rattle.drawing.proofs.placing.domains_before.Given as goal

-- the numbers so far are counted
abbrev pub invariant-loop-other : goal.invariant-loop-other
invariant-loop-other l = (l.domains ≡ domains_before l.ports l.other) × (l.domains ≤ l.other)
