use Rattle.std.proofs.Common.{List, subst}
use Rattle.std.specs.List.{flat_map}
use Rattle.fabric_core.specs.declared.station.Station.{Station}
use Rattle.fabric_core.specs.Stations.{events_at}
use Rattle.audit.specs.Landing.{ComesToRest}
use Rattle.audit.proofs.trial.ran.Goals as goal

pub returns-clause-run : goal.returns-clause-run
returns-clause-run c = record {
  sweep = flat_map events_at c.args.setting.now.stations.items;
  is_sweep = c.requires.sweep;
  mid = c.in-Some.fabric;
  submitted = rw c.in-Some.is at c.in_ok-fabric.ensures.begun;
  rested = subst (λ (ss : List Station). ComesToRest (flat_map events_at ss) c.in-Some.fabric c.come_to_rest.new.fabric) c.deref.ensures.value c.in_ok-come_to_rest.ensures;
}
