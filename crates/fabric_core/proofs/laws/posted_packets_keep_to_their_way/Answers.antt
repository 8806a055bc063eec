use Rattle.fabric_core.proofs.order.AloneSteps.{way_kept}
use Rattle.fabric_core.proofs.laws.posted_packets_keep_to_their_way.Goals as goal

pub returns : goal.returns
returns c = way_kept
