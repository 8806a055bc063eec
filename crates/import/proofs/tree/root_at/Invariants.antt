use Rattle.std.proofs.Common.{◌≡◌, drop}
use Rattle.std.specs.List.{find}
use Rattle.import.specs.Trees.{is_root_at}
use Rattle.import.proofs.tree.root_at.Given as goal

abbrev pub invariant-loop-device : goal.invariant-loop-device
invariant-loop-device l = find (is_root_at l.dump l.location) (drop l.device-index l.device-items) ≡ find (is_root_at l.dump l.location) l.device-items
