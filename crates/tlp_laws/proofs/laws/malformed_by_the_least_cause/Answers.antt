use Rattle.tlp_laws.proofs.Leasts.{found, none, only, well}
use Rattle.tlp_laws.proofs.laws.malformed_by_the_least_cause.Goals as goal

pub returns-clause-found : goal.returns-clause-found
returns-clause-found c = found

pub returns-clause-only : goal.returns-clause-only
returns-clause-only c = only

pub returns-clause-well : goal.returns-clause-well
returns-clause-well c = λ bytes. (well bytes, none bytes)
