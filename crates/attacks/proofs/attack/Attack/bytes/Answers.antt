use Rattle.attacks.proofs.Fits.{fits}
use Rattle.attacks.proofs.attack.Attack.bytes.Goals as goal

pub read-request-requires : goal.read-request-requires
read-request-requires c = rw c.head_of-head.ensures (fits c.args.self.now)

pub write-request-requires-clause-fits : goal.write-request-requires-clause-fits
write-request-requires-clause-fits c = rw c.head_of-head.ensures (fits c.args.self.now)
