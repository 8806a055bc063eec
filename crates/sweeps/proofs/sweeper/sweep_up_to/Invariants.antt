use Rattle.std.proofs.Common.{◌-◌, map}
use Rattle.std.specs.List.{flat_map}
use Rattle.fabric_core.specs.Stations.{events_at}
use Rattle.sweeps.specs.Asleep.{AreAsleep, station_of}
use Rattle.sweeps.proofs.Cutting.{LeadsCut}
use Rattle.sweeps.proofs.Running.{Leads}
use Rattle.sweeps.proofs.sweeper.sweep_up_to.Given as goal

-- what is left gives the whole, and who is asleep is idle
abbrev pub invariant-loop : goal.invariant-loop
invariant-loop l = record {
  leads : Leads (flat_map events_at (map station_of l.watchpoints)) l.most l.initial.fabric (l.most - l.counter) l.fabric;
  leads_cut : LeadsCut (flat_map events_at (map station_of l.watchpoints)) l.most l.initial.fabric (l.most - l.counter) l.fabric;
  asleep : AreAsleep l.watchpoints l.fabric l.awake;
}
