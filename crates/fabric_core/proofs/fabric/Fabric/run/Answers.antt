use Rattle.std.proofs.Common.{arith, ap, ◌∙◌, subst}
use Rattle.fabric_core.specs.Credits.{HaveCredits}
use Rattle.fabric_core.specs.Kept.{world_in}
use Rattle.fabric_core.specs.Orderly.{IsOrderly}
use Rattle.fabric_core.specs.Orders.{AreInOrder}
use Rattle.fabric_core.specs.Places.{HaveOnePlace}
use Rattle.fabric_core.specs.World.{is_guarded}
use Rattle.fabric_core.proofs.bounded.Bounding.{have_credits}
use Rattle.fabric_core.proofs.apart.Apart.{apart_next, apart_whole}
use Rattle.fabric_core.proofs.runs.Begun.{run_grow}
use Rattle.fabric_core.proofs.order.InOrder.{in_order}
use Rattle.fabric_core.proofs.places.OnePlace.{one_place}
use Rattle.fabric_core.proofs.soundness.Orderly.{orderly, run_controls}
use Rattle.fabric_core.proofs.runs.Running.{run_next, run_whole}
use Rattle.fabric_core.proofs.fabric.Fabric.run.Goals as goal

pub loop-event-preserved : goal.loop-event-preserved
loop-event-preserved c = record {
  runs = run_next c.args.self.now c.loop-event.self c.step-outcome.new.self c.args.events.now c.loop-event.outcomes.items _ c.loop-event.event-index c.event-item.result c.step-outcome.result
      c.loop-event-test.true c.event-item.is c.push_reserved.ensures.items c.loop-event.invariant.runs c.step-outcome.ensures.steps;
  apart = apart_next c.args.self.now c.loop-event.self c.step-outcome.new.self c.args.events.now c.loop-event.outcomes.items _ c.loop-event.event-index c.event-item.result c.step-outcome.result
      c.loop-event-test.true c.event-item.is c.push_reserved.ensures.items c.loop-event.invariant.runs c.loop-event.invariant.apart c.step-outcome.ensures.steps c.step-outcome.ensures.apart;
  made = omega (arith, c.push_reserved.ensures.len, c.loop-event.invariant.made);
  room = omega (arith, c.push_reserved.ensures.capacity, c.loop-event.invariant.room);
}

pub returns-clause-begins : goal.returns-clause-begins
returns-clause-begins c =
    run_grow c.args.self.now c.loop-event.self c.args.events.now c.loop-event.outcomes.items
    (run_whole c.args.self.now c.loop-event.self c.args.events.now c.loop-event.outcomes.items c.loop-event.event-index c.loop-event-test.false c.loop-event.invariant.runs)

pub returns-clause-bounded : goal.returns-clause-bounded
returns-clause-bounded c = subst HaveCredits c.self.view_is (have_credits (world_in c.self.inside) c.self.invariant.bounded)

pub returns-clause-controls : goal.returns-clause-controls
returns-clause-controls c =
    run_controls c.args.self.now c.loop-event.self c.args.events.now c.loop-event.outcomes.items
    (run_whole c.args.self.now c.loop-event.self c.args.events.now c.loop-event.outcomes.items c.loop-event.event-index c.loop-event-test.false c.loop-event.invariant.runs)

pub returns-clause-guarded : goal.returns-clause-guarded
returns-clause-guarded c guarded = subst IsOrderly c.self.view_is (orderly (world_in c.self.inside) c.self.invariant (ap is_guarded c.self.view_is ∙ guarded))

pub returns-clause-apart : goal.returns-clause-apart
returns-clause-apart c = apart_whole c.args.self.now c.loop-event.self c.args.events.now c.loop-event.outcomes.items c.loop-event.event-index c.loop-event-test.false c.loop-event.invariant.apart

pub returns-clause-placed : goal.returns-clause-placed
returns-clause-placed c guarded = subst HaveOnePlace c.self.view_is (one_place (world_in c.self.inside) c.self.invariant (ap is_guarded c.self.view_is ∙ guarded))

pub returns-clause-ordered : goal.returns-clause-ordered
returns-clause-ordered c guarded = subst AreInOrder c.self.view_is (in_order (world_in c.self.inside) c.self.invariant (ap is_guarded c.self.view_is ∙ guarded))
