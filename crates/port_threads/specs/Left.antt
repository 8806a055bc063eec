-- What is left once workers were stopped.
use Rattle.std.specs.Prelude.{◌≡◌, ℕ, ◌<◌, ◌≤◌, List, [], length, map, reverse, slice_index_or, vec_len}
use Rattle.std.specs.declared.snapshot.Snapshot.{Snapshot}
use Rattle.frame_log.specs.Descriptor.{Descriptor}
use Rattle.monitor.specs.Numbering.{reports_of}
use Rattle.monitor.specs.Order.{of_seat}
use Rattle.monitor.specs.Reporting.{QueueSeat, ReporterView, seat_of}
use Rattle.monitor.specs.declared.queue.Report.{Report}
use Rattle.thread_rings.specs.Returned.{row_of}
use Rattle.thread_rings.specs.Wired.{numbered, table_of}
use Rattle.thread_rings.specs.declared.laid.Laid.{Laid}
use Rattle.thread_rings.specs.declared.wire.Wire.{Wire}
use Rattle.port_threads.specs.declared.stopped.Stopped.{Stopped}
use Rattle.port_threads.specs.declared.ring_tallies.RingTallies.{RingTallies}
use Rattle.thread_totals.specs.Balance.{AreBalanced}
use Rattle.thread_totals.specs.Standing.{frames_left}

-- ---- rings

module _ {T : Type 0} where
  -- all rings that were laid for these wires have come back, the last first
  pub record AreBack (wires : List Wire) (made : List (Laid T)) (tallies : RingTallies T) : Type 0 where
    pub count : vec_len tallies.rings ≡ length wires
    pub rows : map row_of tallies.rings.items ≡ reverse (numbered (table_of made))

-- ---- reports

-- a port's end of the queue as it was at the end: its seat, and the reports that it put in
abbrev pub seat_left : Snapshot ReporterView → QueueSeat
seat_left end = seat_of end.value

abbrev pub reported_by : Snapshot ReporterView → List Report
reported_by end = reports_of end.value.seat end.value.reported

-- of each port, from seat 0 on, the list has what that port reported, each report once and in order, and it has no others
pub record AreReported (list : List Report) (ports : List (Snapshot ReporterView)) : Type 0 where
  pub all : (k : ℕ) → k < length ports → of_seat k list ≡ slice_index_or (map reported_by ports) k []
  pub others : (seat : ℕ) → length ports ≤ seat → of_seat seat list ≡ []

-- ---- packets and begins

-- all packets that stand anywhere in what is left
abbrev pub frames_of : Stopped → List Descriptor
frames_of s = frames_left s.remains.items s.links.rings.items s.pairs.rings.items

-- nothing of any domain was lost or doubled
abbrev pub AddsUp : Stopped → Type 0
AddsUp s = AreBalanced (frames_of s) s.remains.items s.domains.items
