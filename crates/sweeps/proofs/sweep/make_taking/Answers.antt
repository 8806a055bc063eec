use Rattle.sweeps.proofs.Running.{none_taken}
use Rattle.sweeps.proofs.sweep.make_taking.Goals as goal

pub returns-then-is_none-clause-made : goal.returns-then-is_none-clause-made
returns-then-is_none-clause-made c = none_taken c.args.fabric.now c.args.event.now c.home.result (c.home.ensures.idle c.requires) c.if-is_none.ensures
