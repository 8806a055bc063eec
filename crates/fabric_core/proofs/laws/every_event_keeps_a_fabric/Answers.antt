use Rattle.fabric_core.proofs.order.InOrder.{fabric_after}
use Rattle.fabric_core.proofs.laws.every_event_keeps_a_fabric.Goals as goal

pub returns : goal.returns
returns c = fabric_after
