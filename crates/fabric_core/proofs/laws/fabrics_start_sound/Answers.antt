use Rattle.fabric_core.proofs.soundness.GuardedStart as law
use Rattle.fabric_core.proofs.laws.fabrics_start_sound.Goals as goal

pub returns : goal.returns
returns c = law.guarded_start
