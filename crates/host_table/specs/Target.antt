-- What a table answers.
use Rattle.std.specs.Prelude.{Option, Some, None}
use Rattle.platform.specs.declared.parts.MapTarget.{MapTarget}
use Rattle.platform.specs.declared.parts.MapTarget.TheVariants as line
use Rattle.host_table.specs.declared.target.Target.{Target}
use Rattle.host_table.specs.declared.target.Target.TheVariants as table

-- the target of a line that an answer stands for
abbrev pub mapped_to : Target → Option MapTarget
mapped_to (table.Frame number) = Some (line.Frame number)
mapped_to (table.Peer function) = Some (line.Peer function)
mapped_to table.None = None
