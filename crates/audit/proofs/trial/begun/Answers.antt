use Rattle.std.proofs.Common.{subst}
use Rattle.fab_types.specs.declared.outcome.Outcome.TheVariants.{Moved}
use Rattle.fabric_core.specs.declared.event.Event.TheVariants.{Submit}
use Rattle.fabric_core.specs.Events.{StepsTo}
use Rattle.fabric_core.specs.World.{World}
use Rattle.audit.proofs.trial.begun.Goals as goal

pub returns-in-Moved-clause-begun : goal.returns-in-Moved-clause-begun
returns-in-Moved-clause-begun c =
    subst (λ (w : World). StepsTo w (Submit c.args.function c.args.bytes) Moved c.step.new.self) c.in_ok-fabric.ensures.start c.in-Moved.ensures.steps
