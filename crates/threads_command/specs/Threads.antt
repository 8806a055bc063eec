-- What the command `threads` prints.
use Rattle.std.specs.Prelude.{◌≡◌, ℕ, true, ⊤, ◌++◌, List, map}
use Rattle.std.specs.List.{flat_map, list_all}
use Rattle.inputs.specs.Inputs.{AreFiles}
use Rattle.inputs.specs.declared.fault.Fault.{Fault}
use Rattle.inputs.specs.declared.fault.Fault.TheVariants as fault
use Rattle.platform.specs.Platform.{Platform}
use Rattle.platform.specs.Share.{is_guarded_port}
use Rattle.port_threads.specs.Fabrics.{FabricView, IsFabricOf}
use Rattle.port_threads.specs.Left.{AddsUp, frames_of}
use Rattle.port_threads.specs.Stops.{Leaves}
use Rattle.port_threads.specs.declared.stopped.Stopped.{Stopped}
use Rattle.reports.specs.Report.{violation_lines}
use Rattle.script.specs.declared.lines.Line.{Line}
use Rattle.threads_command.specs.Begins.{AllBegin, BegunView, none_begun}
use Rattle.threads_command.specs.Counted.{AreCountedParts}
use Rattle.threads_command.specs.Refusals.{Counts, all_added, refused_by, refused_lines}
use Rattle.thread_totals.specs.Counts.{totals_of}

-- The workers of a platform's fabric were started, the begins of these lines were asked of its injectors, and the workers
-- were stopped: this was left, and where all five controls are set on each port it adds up. So many begins were refused: those
-- that no injector took, and those that a domain refused.
pub record IsStopped (platform : Platform) (lines : List Line) (refused : Counts) (stopped : Stopped) : Type 0 where
  pub fabric : FabricView
  pub is_fabric : IsFabricOf platform fabric
  pub begun : BegunView
  pub begins : AllBegin lines (none_begun fabric.origins) begun
  pub leaves : Leaves (record fabric { origins = begun.left }) stopped
  pub balanced : list_all is_guarded_port platform.ports ≡ true → AddsUp stopped
  pub counts : refused ≡ all_added begun.refused (flat_map refused_by stopped.remains.items)

-- What may stop a run in threads: want of memory; a thread that isn't made, a ring that stays full, or a stop that doesn't add
-- up; and an output that takes no more
abbrev pub IsThreadsFault : Fault → Type 0
IsThreadsFault fault.NoMemory = ⊤
IsThreadsFault fault.ThreadsFailed = ⊤
IsThreadsFault fault.Unwritable = ⊤
IsThreadsFault _ = ⊥

-- the refused begins, then the violations as the monitor took them, and then each domain, with what counts of it
pub record IsReport (refused : Counts) (stopped : Stopped) (text : List ℕ) : Type 0 where
  pub parts : List ℕ
  pub domains : AreCountedParts (totals_of (frames_of stopped) stopped.remains.items) stopped.domains.items parts
  pub lines : text ≡ refused_lines refused ++ violation_lines (map (λ report. report.violation) stopped.list.items) ++ parts

-- the fabric of the one file ran on threads of its own, driven by the other
pub record ThreadsPrints (holds : List ℕ → List ℕ → Type 0) (layout_name script_name : List ℕ) (text : List ℕ) : Type 0 where
  pub platform : Platform
  pub lines : List Line
  pub files : AreFiles holds layout_name script_name platform lines
  pub refused : Counts
  pub stopped : Stopped
  pub stops : IsStopped platform lines refused stopped
  pub report : IsReport refused stopped text
