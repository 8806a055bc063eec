use Rattle.domain.proofs.OneOutbox.{first_posted, one_outbox}
use Rattle.domain.proofs.laws.packets_in_order_left_one_outbox.Goals as goal

pub returns-clause-outbox : goal.returns-clause-outbox
returns-clause-outbox c ports domain first second pair = one_outbox ports domain first second pair

pub returns-clause-posted : goal.returns-clause-posted
returns-clause-posted c ports domain first second pair = first_posted ports domain first second pair
