use Rattle.std.proofs.Common.{◌∙◌, map, sym}
use Rattle.monitor.specs.Reporting.{seat_of}
use Rattle.port_threads.proofs.Taken.{all_reported}
use Rattle.port_threads.proofs.closing.closed.Goals as goal

pub returns-clause-reports : goal.returns-clause-reports
returns-clause-reports g c =
    all_reported c.in_ok-list.list.items c.in_ok-ports.ports.items (map seat_of c.args.reporters.items) c.close_all.new.watch.ended c.close_all.new.watch.seats c.in_ok-ports.ensures.ended c.in_ok-ports.ensures.seats
    (c.requires.seats ∙ sym c.close_all.ensures.same) c.in_ok-list.ensures.all c.in_ok-list.ensures.others
