use Rattle.domain.proofs.PortHeaders.{refusal_sends}
use Rattle.domain.proofs.domain.Domain.refuse.Goals as goal

pub returns-in-Ok-clause-reply : goal.returns-in-Ok-clause-reply
returns-in-Ok-clause-reply c = refusal_sends _ _ _ c.in-Ok.sent c.in-Ok.ensures.ok
