use Rattle.std.proofs.Common.{sym, subst}
use Rattle.request_handling.specs.Answers.{IsReadAs}
use Rattle.request_handling.proofs.WellMadeLemmas.{read_as}
use Rattle.request_handling.proofs.handling.Made.bytes.Goals as goal

pub returns-in-Request-clause-read : goal.returns-in-Request-clause-read
returns-in-Request-clause-read c = subst (λ m. IsReadAs m c.bytes-in-Request.result.now) (sym c.in-Request.is) (read_as c.in-Request.packet c.bytes-in-Request.result.now c.bytes-in-Request.ensures.spelled)
