use Rattle.fabric_core.proofs.soundness.Guarded as law
use Rattle.fabric_core.proofs.laws.guarded_fabrics_stay_sound.Goals as goal

pub returns : goal.returns
returns c = law.guarded_after
