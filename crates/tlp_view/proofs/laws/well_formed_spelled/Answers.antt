use Rattle.tlp_view.proofs.Spelled.{spelled as the_law}
use Rattle.tlp_view.proofs.laws.well_formed_spelled.Goals as goal

pub returns : goal.returns
returns c = the_law
