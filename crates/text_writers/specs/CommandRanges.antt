-- Commands whose numbers have room in their fields.
use Rattle.std.specs.Prelude.{◌<◌, ◌≤◌}
use Rattle.hex.specs.Hex.{IsBytes}
use Rattle.fab_types.specs.declared.host_access.HostAccess.{HostAccess}
use Rattle.fab_types.specs.declared.host_access.Operation.{Operation}
use Rattle.fab_types.specs.declared.host_access.Operation.TheVariants.{Read, Write}
use Rattle.text_writers.specs.LineRanges.{IsCount, IsId}
use Rattle.script.specs.declared.lines.Command.{Command}
use Rattle.script.specs.declared.lines.Command.TheVariants.{Submit, Tick, Mmio, Sweep}

abbrev pub IsOperation : Operation → Type 0
IsOperation (Read count) = IsCount count
IsOperation (Write bytes) = IsBytes bytes

-- within a page of 4,096 bytes
pub record IsAccess (access : HostAccess) : Type 0 where
  pub function : IsId access.function
  pub offset : access.offset < 4096
  pub operation : IsOperation access.operation

-- 31 domains; 1,000,000 turns at most
abbrev pub IsInRange : Command → Type 0
IsInRange (Submit function bytes) = IsId function × IsBytes bytes
IsInRange (Tick function) = IsId function
IsInRange (Mmio domain access) = (1 ≤ domain) × (domain ≤ 31) × IsAccess access
IsInRange (Sweep turns) = (1 ≤ turns) × (turns ≤ 1000000)
