use Rattle.fabric_core.proofs.invariant.Keeping as law
use Rattle.fabric_core.proofs.laws.every_event_keeps_the_invariant.Goals as goal

pub returns : goal.returns
returns c = law.kept_after
