use Rattle.fab_types.specs.declared.origin.Origin.TheVariants.{Function}
use Rattle.guarded_routes.proofs.Hosts.{delivers}
use Rattle.guarded_routes.proofs.Taking.{accesses, home_at, reply_at, request_at}
use Rattle.guarded_routes.proofs.laws.functions_take.Goals as goal

pub returns-clause-home : goal.returns-clause-home
returns-clause-home c = λ platform function frame guarded listed sound. home_at platform guarded function frame listed sound

pub returns-clause-reply : goal.returns-clause-reply
returns-clause-reply c = λ platform function frame guarded listed sound reply. reply_at platform guarded function frame listed sound reply

pub returns-clause-delivered : goal.returns-clause-delivered
returns-clause-delivered c = λ platform function frame state guarded listed sound reply flies. delivers platform guarded frame state (Function function) (reply_at platform guarded function frame listed sound reply) reply flies

pub returns-clause-request : goal.returns-clause-request
returns-clause-request c = λ platform function frame guarded listed sound request. request_at platform guarded function frame listed sound request

pub returns-clause-carried : goal.returns-clause-carried
returns-clause-carried c = λ platform function frame state journal guarded listed sound request was flies. accesses platform guarded function frame state journal listed sound request was flies
