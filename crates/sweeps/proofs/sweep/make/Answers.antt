use Rattle.sweeps.proofs.Cutting.{refused}
use Rattle.sweeps.proofs.Running.{made}
use Rattle.sweeps.proofs.sweep.make.Goals as goal

pub returns-clause-made : goal.returns-clause-made
returns-clause-made c = made c.args.fabric.now c.step.new.self c.args.event.now c.step.result c.has_moved.result c.has_moved.ensures.moved c.step.ensures.steps

pub returns-clause-cut_short : goal.returns-clause-cut_short
returns-clause-cut_short c = refused c.args.fabric.now c.step.new.self c.args.event.now c.step.result c.has_moved.result c.has_moved.ensures.refused c.step.ensures.steps
