use Rattle.guarded_routes.proofs.Hosts.{at_host}
use Rattle.guarded_routes.proofs.laws.host_takes.Goals as goal

pub returns-clause-request : goal.returns-clause-request
returns-clause-request c = λ platform frame guarded sound request. (at_host platform guarded frame sound).request request

pub returns-clause-carried : goal.returns-clause-carried
returns-clause-carried c = λ platform frame state guarded sound request flies. (at_host platform guarded frame sound).carried request state flies

pub returns-clause-reply : goal.returns-clause-reply
returns-clause-reply c = λ platform frame target relaxed_ordering guarded sound reply zero. (at_host platform guarded frame sound).reply target relaxed_ordering reply zero

pub returns-clause-delivered : goal.returns-clause-delivered
returns-clause-delivered c = λ platform frame target relaxed_ordering state guarded sound reply zero flies. (at_host platform guarded frame sound).delivered target relaxed_ordering reply zero state flies

pub returns-clause-relayed : goal.returns-clause-relayed
returns-clause-relayed c = λ platform frame target relaxed_ordering guarded sound reply other. (at_host platform guarded frame sound).relayed target relaxed_ordering reply other
