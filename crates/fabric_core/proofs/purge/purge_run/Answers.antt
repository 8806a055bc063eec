use Rattle.fabric_core.specs.World.{world_of}
use Rattle.fabric_core.proofs.runs.Leaving.{both_next, both_start, both_whole}
use Rattle.fabric_core.proofs.purge.purge_run.Goals as goal

pub loop-event-init : goal.loop-event-init
loop-event-init c = record { both = both_start c.args.domain (world_of c.args.layout.now) c.in-Ok.first c.in-Ok-new.second c.in-Ok.ensures.start c.in-Ok-new.ensures.start }

pub loop-event-preserved : goal.loop-event-preserved
loop-event-preserved c = record {
  both =
      both_next c.args.domain (world_of c.args.layout.now) c.loop-event.first c.advance.new.first c.loop-event.second c.advance.new.second c.args.events.now c.loop-event.event-index c.event-item.result c.loop-event-test.true
      c.event-item.is c.loop-event.invariant.both c.in-Ok-advance.ensures;
}

pub returns-clause-runs : goal.returns-clause-runs
returns-clause-runs c =
    both_whole c.args.layout.now c.args.domain c.loop-event.first c.loop-event.second c.args.events.now c.loop-event.event-index c.ports.ensures.laws c.other_domains_can_be_taken_out.ensures c.loop-event-test.false c.loop-event.invariant.both
