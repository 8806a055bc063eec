use Rattle.std.proofs.Common.{◌≡◌, drop}
use Rattle.std.specs.List.{find}
use Rattle.import.specs.Trees.{is_upstream_on}
use Rattle.import.proofs.tree.upstream_on.Given as goal

abbrev pub invariant-loop-device : goal.invariant-loop-device
invariant-loop-device l = find (is_upstream_on l.dump l.segment l.bus) (drop l.device-index l.device-items) ≡ find (is_upstream_on l.dump l.segment l.bus) l.device-items
