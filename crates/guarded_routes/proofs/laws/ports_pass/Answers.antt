use Rattle.guarded_routes.proofs.Passing.{passes}
use Rattle.guarded_routes.proofs.Taking.{refuses}
use Rattle.guarded_routes.proofs.laws.ports_pass.Goals as goal

pub returns-clause-passes : goal.returns-clause-passes
returns-clause-passes c = λ platform line frame guarded listed sound. passes platform guarded line listed frame sound

pub returns-clause-refused : goal.returns-clause-refused
returns-clause-refused c = λ platform line frame state report guarded listed sound stopped flies. refuses platform guarded line frame state report listed sound stopped flies
