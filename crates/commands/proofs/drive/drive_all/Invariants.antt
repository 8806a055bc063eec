use Rattle.std.proofs.Common.{◌≡◌, ◌++◌}
use Rattle.std.specs.List.{flat_map}
use Rattle.fabric_core.specs.Stations.{events_at}
use Rattle.commands.specs.Driving.{Drives}
use Rattle.reports.specs.Writing.{Wrote}
use Rattle.commands.proofs.drive.drive_all.Given as goal

-- the lines so far were done, and the others are left
abbrev pub invariant-loop-line : goal.invariant-loop-line
invariant-loop-line g l =
    record {
      done : Wrote (g.W.Write.contents l.initial.out) (g.W.Write.contents l.out) (Drives (flat_map events_at l.initial.sweeper.stations) l.initial.sweeper.world l.yielded l.sweeper.world);
      stations : l.sweeper.stations ≡ l.initial.sweeper.stations;
      left : l.yielded ++ l.line-iterator.rest.items ≡ l.fn.lines.items;
    }
