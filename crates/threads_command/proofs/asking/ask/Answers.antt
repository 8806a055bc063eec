use Rattle.std.proofs.Common.{sym}
use Rattle.threads_command.proofs.Answering.{given_back, taken}
use Rattle.threads_command.proofs.asking.ask.Goals as goal

pub returns-in-Ok-clause-sent : goal.returns-in-Ok-clause-sent
returns-in-Ok-clause-sent c = λ sent. rw (c.in-Submit.is, sym c.as_slice.ensures) (taken _ (λ fault. fault) _ _ _ _ c.in-Ok.is c.submit.ensures.refused c.submit.ensures.sent)

pub returns-in-Ok-tick-clause-sent : goal.returns-in-Ok-tick-clause-sent
returns-in-Ok-tick-clause-sent c = λ sent. rw (c.in-Tick.is) (taken _ (λ fault. fault) _ _ _ _ c.in-Ok-tick.is c.tick.ensures.refused c.tick.ensures.sent)

pub returns-in-Ok-mmio-clause-sent : goal.returns-in-Ok-mmio-clause-sent
returns-in-Ok-mmio-clause-sent c = λ sent. rw (c.in-Mmio.is) (taken _ (λ fault. record { fault = fault; access = c.in-Mmio.access }) _ _ _ _ c.in-Ok-mmio.is c.mmio.ensures.refused c.mmio.ensures.sent)

pub returns-in-RingFull-clause-full : goal.returns-in-RingFull-clause-full
returns-in-RingFull-clause-full c = λ back e.
    let same = given_back _ _ _ _ c.in-Err-mmio.is c.mmio.ensures.refused c.mmio.ensures.full in
    (cc, c.in-Err-mmio.ensures.err, c.in-Err-mmio.ensures.no_place cc)
