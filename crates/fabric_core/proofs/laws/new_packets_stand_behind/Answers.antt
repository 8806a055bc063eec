use Rattle.fabric_core.proofs.order.NewPairs.{new_turn}
use Rattle.fabric_core.proofs.laws.new_packets_stand_behind.Goals as goal

pub returns : goal.returns
returns c = new_turn
