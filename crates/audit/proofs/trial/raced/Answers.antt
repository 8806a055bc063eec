use Rattle.std.proofs.Common.{List, subst, ℕ}
use Rattle.std.specs.List.{flat_map}
use Rattle.fab_types.specs.declared.outcome.Outcome.{Outcome}
use Rattle.fabric_core.specs.declared.event.Event.TheVariants.{Submit}
use Rattle.fabric_core.specs.declared.station.Station.{Station}
use Rattle.fabric_core.specs.Events.{StepsTo}
use Rattle.fabric_core.specs.Stations.{events_at}
use Rattle.sweeps.specs.Sweeps.{SweepsUpTo}
use Rattle.audit.specs.Landing.{ComesToRest}
use Rattle.audit.proofs.trial.raced.Goals as goal

pub returns-clause-race : goal.returns-clause-race
returns-clause-race c = record {
  sweep = flat_map events_at c.args.setting.now.stations.items;
  is_sweep = c.requires.sweep;
  ahead = c.in-Some.fabric;
  submitted = rw c.in-Some.is at c.in_ok-fabric.ensures.begun;
  later = c.sweeps.new.fabric;
  swept = subst (λ (ss : List Station). SweepsUpTo (flat_map events_at ss) c.args.read.now.sweeps c.in-Some.fabric c.sweeps.new.fabric) c.deref.ensures.value c.in_ok-sweeps.ensures.made;
  mid = c.ask.new.fabric;
  asked = subst (λ (bs : List ℕ). (outcome : Outcome) × StepsTo c.sweeps.new.fabric (Submit c.args.read.now.function bs) outcome c.ask.new.fabric) c.in_ok-bytes.ensures c.in_ok-ask.ensures;
  rested = subst (λ (ss : List Station). ComesToRest (flat_map events_at ss) c.ask.new.fabric c.come_to_rest.new.fabric) c.deref-2.ensures.value c.in_ok-come_to_rest.ensures;
}
