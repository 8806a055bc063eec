-- A platform, as the lines of a layout say it.
use Rattle.std.specs.Prelude.{ℕ, List, []}
use Rattle.platform.specs.declared.parts.LayoutVersion.{LayoutVersion}
use Rattle.platform.specs.declared.parts.Switch.{Switch}
use Rattle.platform.specs.declared.parts.DownstreamPort.{DownstreamPort}
use Rattle.platform.specs.declared.parts.EndpointFunction.{EndpointFunction}
use Rattle.platform.specs.declared.parts.Mapping.{Mapping}
use Rattle.platform.specs.declared.parts.BudgetLine.{BudgetLine}
use Rattle.platform.specs.declared.parts.CreditLine.{CreditLine}

pub record Platform : Type 0 where
  pub version : LayoutVersion
  pub frames : ℕ  -- how many frames of memory there are; 0 without a line
  pub switches : List Switch
  pub ports : List DownstreamPort
  pub functions : List EndpointFunction
  pub maps : List Mapping
  pub budgets : List BudgetLine
  pub credits : List CreditLine

-- those of no lines
abbrev pub no_lines : LayoutVersion → Platform
no_lines version = record { version = version; frames = 0; switches = []; ports = []; functions = []; maps = []; budgets = []; credits = [] }
