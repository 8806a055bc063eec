-- What the monitor's end of the queue of violations keeps.
use Rattle.std.specs.Prelude.{◌≡◌, ℕ, List}
use Rattle.std.specs.Arc.{arc_value}
use Rattle.atomic_table.specs.Seated.{TableId}
use Rattle.crossbeam_queue.specs.Passes.{view, IsPassOf}
use Rattle.monitor.specs.declared.queue.Report.{Report}
use Rattle.monitor.specs.declared.watch.Watch.TheInside.{Inside}
use Rattle.monitor.specs.Order.{monitor_view}

-- which queue, how many seats were given, what was taken, and what each port that has ended reported, from the first seat on
pub record WatchView : Type 0 where
  pub queue : TableId
  pub seats : ℕ
  pub taken : List Report
  pub ended : List (List Report)

abbrev pub watch_view : Inside → WatchView
watch_view w = record { queue = w.pass.table_id; seats = w.seats; taken = w.taken.items; ended = (view w.pass).ended }

pub record KeepsWatch (w : Inside) : Type 0 where
  pub of_queue : IsPassOf (arc_value w.queue) w.pass
  pub is_monitor : view w.pass ≡ monitor_view w.seats w.taken.items (view w.pass).ended
