use Rattle.tlp_laws.proofs.Apart.{not_touching}
use Rattle.tlp_laws.proofs.laws.runs_do_not_touch.Goals as goal

pub returns : goal.returns
returns c = not_touching
