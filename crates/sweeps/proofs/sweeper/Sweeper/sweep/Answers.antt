use Rattle.std.proofs.Common.{List, length, subst, sym}
use Rattle.std.specs.Prelude.{All}
use Rattle.sweeps.specs.declared.watchpoint.Watchpoint.{Watchpoint}
use Rattle.sweeps.specs.Asleep.{AreWithin}
use Rattle.sweeps.proofs.sweeper.Sweeper.sweep.Goals as goal

pub sweep-requires-clause-within : goal.sweep-requires-clause-within
sweep-requires-clause-within c = subst (λ (watchpoints : List Watchpoint). All (AreWithin (length watchpoints)) watchpoints) (sym c.deref.ensures.value) c.self.invariant.within
