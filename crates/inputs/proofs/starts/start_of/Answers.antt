use Rattle.std.proofs.Common.{inr, refl}
use Rattle.inputs.proofs.Owning.{no_share}
use Rattle.inputs.proofs.starts.start_of.Goals as goal

pub returns-in_default-clause-none : goal.returns-in_default-clause-none
returns-in_default-clause-none c = inr (refl, no_share c.args.layout.now c.args.number c.ports.ensures.laws c.in_default.ensures)
