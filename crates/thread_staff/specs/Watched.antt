-- What no turn of the monitor changes.
use Rattle.std.specs.Prelude.{ℕ, List}
use Rattle.atomic_table.specs.Seated.{TableId}
use Rattle.monitor.specs.Watching.{WatchView}
use Rattle.monitor.specs.declared.queue.Report.{Report}

-- the monitor's queue, how many seats it gave, and what each port whose end came back reported
pub record MonitorKept : Type 0 where
  pub queue : TableId
  pub seats : ℕ
  pub ended : List (List Report)

abbrev pub watch_kept : WatchView → MonitorKept
watch_kept watch = record { queue = watch.queue; seats = watch.seats; ended = watch.ended }
