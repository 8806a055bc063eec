use Rattle.outboxes.proofs.Noting.{none_there}
use Rattle.outboxes.proofs.origin_index.no_hosts.Goals as goal

pub returns : goal.returns
returns c number = none_there 32 number
