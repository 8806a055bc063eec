use Rattle.guarded_routes.proofs.Agreement.{agrees}
use Rattle.guarded_routes.proofs.Taking.{guarded_first}
use Rattle.guarded_routes.proofs.laws.guarded_ports_do_what_fates_say.Goals as goal

pub returns-clause-fate : goal.returns-clause-fate
returns-clause-fate c = agrees

pub returns-clause-first : goal.returns-clause-first
returns-clause-first c = λ platform line domain guarded listed own. guarded_first platform guarded line listed domain own
