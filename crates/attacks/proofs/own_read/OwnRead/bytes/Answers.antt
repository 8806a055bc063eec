use Rattle.attacks.proofs.Fits.{own_fits}
use Rattle.attacks.proofs.own_read.OwnRead.bytes.Goals as goal

pub read-request-requires : goal.read-request-requires
read-request-requires c = rw c.head_at-head.ensures (rw c.start_of.ensures (own_fits c.args.self.now))
