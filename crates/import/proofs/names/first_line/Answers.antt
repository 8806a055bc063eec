use Rattle.std.proofs.Common.{refl}
use Rattle.text.proofs.Pieces.{pieces-cut, pieces-no_cut}
use Rattle.import.proofs.names.first_line.Goals as goal

pub returns-in-Some : goal.returns-in-Some
returns-in-Some c = rw (pieces-cut c.in-Some.parts.before.now c.in-Some.parts.after.now c.args.text.now c.in-Some.ensures.parts) refl

pub returns-in-None : goal.returns-in-None
returns-in-None c = rw (pieces-no_cut c.args.text.now c.in-None.ensures.parts) refl
