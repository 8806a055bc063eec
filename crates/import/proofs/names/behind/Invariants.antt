use Rattle.std.proofs.Common.{◌≡◌, ◌≤◌, drop}
use Rattle.text.specs.Text.{pieces}
use Rattle.import.proofs.names.behind.Given as goal

-- so many lines are passed
abbrev pub invariant-loop : goal.invariant-loop
invariant-loop l = (pieces l.rest ≡ drop l.counter (pieces l.fn.text)) × (l.counter ≤ l.fn.count)
