-- Violations as a port reports them.
use Rattle.std.specs.Prelude.{ℕ, Bool, List}
use Rattle.fab_types.specs.declared.violation.Violation.{Violation}

-- what was reported, whether there is room for one more report without taking memory, and how often one was given back
pub record Reported : Type 0 where
  pub violations : List Violation
  pub has_room : Bool
  pub refusals : ℕ
