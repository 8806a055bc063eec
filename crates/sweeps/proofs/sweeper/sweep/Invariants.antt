use Rattle.std.proofs.Common.{◌-◌, ◌≤◌, length, map, take}
use Rattle.std.specs.List.{flat_map}
use Rattle.fabric_core.specs.Stations.{events_at}
use Rattle.sweeps.specs.Asleep.{AreAsleep, station_of}
use Rattle.sweeps.specs.Sweeps.{Sweeps}
use Rattle.sweeps.proofs.sweeper.sweep.Given as goal

-- the events of the watchpoints so far were made, and who is asleep is idle
abbrev pub invariant-loop-place : goal.invariant-loop-place
invariant-loop-place l = record {
  within : l.place ≤ length l.watchpoints;
  made : Sweeps (flat_map events_at (take l.place (map station_of l.watchpoints))) l.initial.fabric l.moved l.fabric;
  asleep : AreAsleep l.watchpoints l.fabric l.awake;
}

abbrev pub decreases-loop-place : goal.decreases-loop-place
decreases-loop-place l = length l.watchpoints - l.place
