use Rattle.std.proofs.Common.{take}
use Rattle.std.specs.List.{flat_map}
use Rattle.fabric_core.specs.Stations.{events_at}
use Rattle.sweeps.specs.Sweeps.{Sweeps}
use Rattle.sweeps.proofs.sweep.sweep.Given as goal

-- the events of the stations so far were made
abbrev pub invariant-loop-station : goal.invariant-loop-station
invariant-loop-station l = Sweeps (flat_map events_at (take l.station-index l.stations)) l.initial.fabric l.moved l.fabric
