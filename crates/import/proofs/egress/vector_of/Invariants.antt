use Rattle.std.proofs.Common.{◌≡◌, drop}
use Rattle.import.specs.Egress.{with_siblings}
use Rattle.import.proofs.egress.vector_of.Given as goal

abbrev pub invariant-loop-device : goal.invariant-loop-device
invariant-loop-device l =
    with_siblings l.source.dump.now l.source.tree l.made l.space.bytes.now l.one l.vector (drop l.device-index l.device-items)
    ≡ with_siblings l.source.dump.now l.source.tree l.made l.space.bytes.now l.one 4294967295 l.device-items
