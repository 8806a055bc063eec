use Rattle.std.proofs.Common.{ap, ◌∙◌, subst}
use Rattle.fabric_core.specs.Isolation.{IsApart}
use Rattle.fabric_core.specs.Kept.{world_in}
use Rattle.fabric_core.specs.World.{World, is_guarded, world_over}
use Rattle.fabric_core.proofs.bounded.Bounding.{have_credits}
use Rattle.fabric_core.proofs.apart.Apart.{apart_step}
use Rattle.fabric_core.proofs.order.InOrder.{in_order}
use Rattle.fabric_core.proofs.places.OnePlace.{one_place}
use Rattle.fabric_core.proofs.soundness.Orderly.{fabric_step, orderly, step_controls}
use Rattle.fabric_core.proofs.fabric.Fabric.step.Goals as goal

pub invariant_of-self : goal.invariant_of-self
invariant_of-self c =
    fabric_step c.every_event_keeps_a_fabric.ensures (world_in c.self.inside) (world_over c.step.new.interconnect c.step.new.agents c.step.new.reports.violations c.step.new.strays.items) c.args.event.now c.step.result c.self.invariant c.step.ensures.steps

pub returns-clause-bounded : goal.returns-clause-bounded
returns-clause-bounded c =
    let new = world_over c.step.new.interconnect c.step.new.agents c.step.new.reports.violations c.step.new.strays.items in
    have_credits new (fabric_step c.every_event_keeps_a_fabric.ensures (world_in c.self.inside) new c.args.event.now c.step.result c.self.invariant c.step.ensures.steps).bounded

pub returns-clause-controls : goal.returns-clause-controls
returns-clause-controls c =
    step_controls (world_in c.self.inside) (world_over c.step.new.interconnect c.step.new.agents c.step.new.reports.violations c.step.new.strays.items) c.args.event.now c.step.result c.step.ensures.steps ∙ ap is_guarded c.self.view_is

pub returns-clause-guarded : goal.returns-clause-guarded
returns-clause-guarded c =
    let new = world_over c.step.new.interconnect c.step.new.agents c.step.new.reports.violations c.step.new.strays.items in
    orderly new (fabric_step c.every_event_keeps_a_fabric.ensures (world_in c.self.inside) new c.args.event.now c.step.result c.self.invariant c.step.ensures.steps)

pub returns-clause-apart : goal.returns-clause-apart
returns-clause-apart c guarded =
    let new = world_over c.step.new.interconnect c.step.new.agents c.step.new.reports.violations c.step.new.strays.items in
    subst (λ (old : World). IsApart old c.args.event.now new) c.self.view_is
    (apart_step (world_in c.self.inside) new c.args.event.now c.step.result c.self.invariant c.step.ensures.steps (ap is_guarded c.self.view_is ∙ guarded))

pub returns-clause-placed : goal.returns-clause-placed
returns-clause-placed c =
    let new = world_over c.step.new.interconnect c.step.new.agents c.step.new.reports.violations c.step.new.strays.items in
    one_place new (fabric_step c.every_event_keeps_a_fabric.ensures (world_in c.self.inside) new c.args.event.now c.step.result c.self.invariant c.step.ensures.steps)

pub returns-clause-ordered : goal.returns-clause-ordered
returns-clause-ordered c =
    let new = world_over c.step.new.interconnect c.step.new.agents c.step.new.reports.violations c.step.new.strays.items in
    in_order new (fabric_step c.every_event_keeps_a_fabric.ensures (world_in c.self.inside) new c.args.event.now c.step.result c.self.invariant c.step.ensures.steps)
