use Rattle.std.proofs.Common.{List, length, subst, sym}
use Rattle.std.specs.Prelude.{All}
use Rattle.sweeps.specs.declared.watchpoint.Watchpoint.{Watchpoint}
use Rattle.sweeps.specs.Asleep.{AreWithin, AreWokenBy}
use Rattle.sweeps.proofs.Sleeping.{begun_after}
use Rattle.sweeps.proofs.sweeper.Sweeper.step.Goals as goal

pub wake_begun-requires-clause-within : goal.wake_begun-requires-clause-within
wake_begun-requires-clause-within c = subst (λ (watchpoints : List Watchpoint). All (AreWithin (length watchpoints)) watchpoints) (sym c.deref.ensures.value) c.self.invariant.within

pub invariant_of-self : goal.invariant_of-self
invariant_of-self c = record {
  within = c.self.invariant.within;
  asleep = begun_after c.self.inside.watchpoints.items c.self.inside.fabric c.step-outcome.new.self c.args.event.now c.step-outcome.result c.self.inside.awake c.wake_begun.new.self c.self.invariant.asleep c.step-outcome.ensures.steps c.wake_begun.ensures.may c.wake_begun.ensures.blocked
      (subst (λ (watchpoints : List Watchpoint). AreWokenBy watchpoints c.args.event.now c.self.inside.awake.flags.items c.wake_begun.new.self.flags.items) c.deref.ensures.value c.wake_begun.ensures.woken);
}
