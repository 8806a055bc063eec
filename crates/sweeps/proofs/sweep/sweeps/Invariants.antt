use Rattle.std.proofs.Common.{◌-◌}
use Rattle.std.specs.List.{flat_map}
use Rattle.fabric_core.specs.Stations.{events_at}
use Rattle.sweeps.proofs.Cutting.{LeadsCut}
use Rattle.sweeps.proofs.Running.{Leads}
use Rattle.sweeps.proofs.sweep.sweeps.Given as goal

-- what is left gives the whole
abbrev pub invariant-loop : goal.invariant-loop
invariant-loop l = Leads (flat_map events_at l.stations) l.most l.initial.fabric (l.most - l.counter) l.fabric × LeadsCut (flat_map events_at l.stations) l.most l.initial.fabric (l.most - l.counter) l.fabric
