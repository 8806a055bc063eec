use Rattle.domain.proofs.Consuming.{consumed_needs}
use Rattle.domain.proofs.ConsumedInOrder.{in_order_after, in_order_new}
use Rattle.domain.proofs.Sending.{sent_after}
use Rattle.domain.proofs.laws.order_is_kept_entry_by_entry.Goals as goal

pub returns-clause-sent : goal.returns-clause-sent
returns-clause-sent c share journal state entry made replays is = sent_after share journal state entry made replays is

pub returns-clause-later : goal.returns-clause-later
returns-clause-later c n m journal entry is needs = in_order_after n m journal entry is needs

pub returns-clause-new : goal.returns-clause-new
returns-clause-new c n m journal none = in_order_new n m journal none

pub returns-clause-needs : goal.returns-clause-needs
returns-clause-needs c share state entry made n is consumed = consumed_needs share state entry made n is consumed
