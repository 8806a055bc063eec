use Rattle.outboxes.proofs.Noting.{none_there}
use Rattle.outboxes.proofs.origin_index.no_functions.Goals as goal

pub returns : goal.returns
returns c bus = none_there 256 bus
