use Rattle.std.proofs.Common.{◌≡◌, ◌++◌, map, length}
use Rattle.std.specs.Vec.Iter.{into_iter_items}
use Rattle.monitor.specs.Reporting.{seat_of}
use Rattle.port_threads.specs.Left.{reported_by, seat_left}
use Rattle.thread_staff.specs.Seats.{AreSeated}
use Rattle.port_threads.proofs.closing.close_all.Given as goal

abbrev pub invariant-loop-reporter : goal.invariant-loop-reporter
invariant-loop-reporter l =
    AreSeated l.watch.queue (length l.watch.ended) (map seat_of (into_iter_items l.reporter-iterator))
    × (map seat_left l.ports.items ++ map seat_of (into_iter_items l.reporter-iterator) ≡ map seat_of l.fn.reporters.items)
    × (map reported_by l.ports.items ≡ l.watch.ended)
    × (l.watch.seats ≡ l.fn.watch.seats)
