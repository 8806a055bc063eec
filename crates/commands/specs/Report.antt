-- The report of a fabric.
use Rattle.std.specs.Prelude.{◌≡◌, ℕ, ◌++◌, List}
use Rattle.fabric_core.specs.World.{World}
use Rattle.reports.specs.Report.{AreParts, violation_lines}

-- the text is the report of a fabric: the violations, oldest first, and then each domain
pub record IsReport (w : World) (text : List ℕ) : Type 0 where
  pub parts : List ℕ
  pub domains : AreParts w.agents.domains parts
  pub lines : text ≡ violation_lines w.violations ++ parts
