use Rattle.std.proofs.Common.{◌≡◌, drop}
use Rattle.import.specs.Refusals.{mixed_among}
use Rattle.import.proofs.refusals.mixed.Given as goal

abbrev pub invariant-loop-device : goal.invariant-loop-device
invariant-loop-device l = mixed_among l.dump l.tree l.owners (drop l.device-index l.device-items) ≡ mixed_among l.dump l.tree l.owners l.device-items
