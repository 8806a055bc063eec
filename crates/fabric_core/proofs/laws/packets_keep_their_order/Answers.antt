use Rattle.fabric_core.proofs.order.OrderedSteps.{ordered_step}
use Rattle.fabric_core.proofs.laws.packets_keep_their_order.Goals as goal

pub returns : goal.returns
returns c = ordered_step
