-- What a port's end of the queue of violations keeps.
use Rattle.std.specs.Prelude.{◌≡◌, ℕ, List, length}
use Rattle.std.specs.Arc.{arc_value}
use Rattle.atomic_table.specs.Seated.{TableId}
use Rattle.crossbeam_queue.specs.Passes.{view, IsPassOf}
use Rattle.fab_types.specs.declared.violation.Violation.{Violation}
use Rattle.monitor.specs.declared.queue_reporter.QueueReporter.TheInside as reporter
use Rattle.monitor.specs.Numbering.{reports_of, violations_of}
use Rattle.monitor.specs.Order.{port_view}

-- which queue, which of its seats, the violations that were reported there in order, and how often a report was given
-- back, in a number that wraps
pub record ReporterView : Type 0 where
  pub queue : TableId
  pub seat : ℕ
  pub reported : List Violation
  pub refusals : ℕ

-- what tells one port's end from another: which queue, and which of its seats
pub record QueueSeat : Type 0 where
  pub queue : TableId
  pub seat : ℕ

abbrev pub seat_of : ReporterView → QueueSeat
seat_of r = record { queue = r.queue; seat = r.seat }

abbrev pub reporter_view : reporter.Inside → ReporterView
reporter_view r = record { queue = r.pass.table_id; seat = r.seat; reported = violations_of (view r.pass).reported; refusals = r.refusals }

pub record KeepsSeat (r : reporter.Inside) : Type 0 where
  pub of_queue : IsPassOf (arc_value r.queue) r.pass
  pub is_port : view r.pass ≡ port_view r.seat (view r.pass).reported
  pub numbered : (view r.pass).reported ≡ reports_of r.seat (violations_of (view r.pass).reported)
  pub next : length (view r.pass).reported ≡ r.next
