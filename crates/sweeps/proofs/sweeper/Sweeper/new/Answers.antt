use Rattle.std.proofs.Common.{◌∙◌, ap, length, map, subst, sym}
use Rattle.std.specs.Prelude.{true}
use Rattle.fabric_core.specs.World.{World}
use Rattle.sweeps.specs.declared.watchpoint.Watchpoint.{Watchpoint}
use Rattle.sweeps.specs.Asleep.{AreAsleep}
use Rattle.sweeps.proofs.Sleeping.{awake_new}
use Rattle.sweeps.proofs.sweeper.Sweeper.new.Goals as goal

pub invariant_of-result : goal.invariant_of-result
invariant_of-result c = record {
  within = c.in_ok-watchpoints.ensures.within;
  asleep = subst (λ (w : World). AreAsleep c.in_ok-watchpoints.watchpoints.items w c.in_ok-awake.awake) (sym c.in_ok-fabric.ensures.start)
      (awake_new c.in_ok-watchpoints.watchpoints.items c.args.layout.now c.in_ok-awake.awake c.is_guarded.result c.ports.ensures.laws c.is_guarded.ensures
      c.in_ok-watchpoints.ensures.wake c.in_ok-awake.ensures.may (c.in_ok-awake.ensures.blocked ∙ ap (length {A = Watchpoint}) c.deref.ensures.value)
      (c.in_ok-awake.ensures.flags ∙ ap (map (λ (watchpoint : Watchpoint). true)) c.deref.ensures.value));
}
