use Rattle.tlp_view.proofs.Sound.{well_formed_sound as the_law}
use Rattle.tlp_view.proofs.laws.well_formed_sound.Goals as goal

pub returns : goal.returns
returns c = the_law
