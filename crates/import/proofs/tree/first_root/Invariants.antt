use Rattle.std.proofs.Common.{◌≡◌, drop}
use Rattle.std.specs.List.{find}
use Rattle.import.specs.Trees.{is_root_port}
use Rattle.import.proofs.tree.first_root.Given as goal

abbrev pub invariant-loop-device : goal.invariant-loop-device
invariant-loop-device l = find (is_root_port l.dump) (drop l.device-index l.device-items) ≡ find (is_root_port l.dump) l.device-items
