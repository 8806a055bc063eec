use Rattle.std.proofs.Common.{◌≡◌, drop}
use Rattle.std.specs.List.{list_any}
use Rattle.import.specs.Trees.{is_root_on_bus_0}
use Rattle.import.proofs.tree.has_root.Given as goal

abbrev pub invariant-loop-device : goal.invariant-loop-device
invariant-loop-device l = list_any (is_root_on_bus_0 l.dump) (drop l.device-index l.device-items) ≡ list_any (is_root_on_bus_0 l.dump) l.device-items
