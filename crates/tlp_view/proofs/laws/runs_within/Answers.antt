use Rattle.tlp_view.proofs.RunsWithin.{runs-within}
use Rattle.tlp_view.proofs.laws.runs_within.Goals as goal

pub returns : goal.returns
returns c = runs-within
