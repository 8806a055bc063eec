use Rattle.tlp_view.proofs.Again.{spelled_once as the_law}
use Rattle.tlp_view.proofs.laws.spelled_once.Goals as goal

pub returns : goal.returns
returns c = the_law
