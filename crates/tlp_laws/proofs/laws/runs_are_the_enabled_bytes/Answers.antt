use Rattle.tlp_laws.proofs.Covered.{held, holding, standing}
use Rattle.tlp_laws.proofs.laws.runs_are_the_enabled_bytes.Goals as goal

pub returns-clause-enabled : goal.returns-clause-enabled
returns-clause-enabled c = λ t enables i kind some. (held t enables i kind some, holding t enables i kind some)

pub returns-clause-bytes : goal.returns-clause-bytes
returns-clause-bytes c = standing
