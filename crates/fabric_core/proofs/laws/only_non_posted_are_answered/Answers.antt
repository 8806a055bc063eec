use Rattle.fabric_core.proofs.effect.Answered as law
use Rattle.fabric_core.proofs.laws.only_non_posted_are_answered.Goals as goal

pub returns : goal.returns
returns c = law.only_non_posted_are_answered
