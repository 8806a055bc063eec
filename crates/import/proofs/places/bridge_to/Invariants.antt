use Rattle.std.proofs.Common.{◌≡◌, drop}
use Rattle.std.specs.List.{find}
use Rattle.import.specs.Places.{is_bridge_to}
use Rattle.import.proofs.places.bridge_to.Given as goal

abbrev pub invariant-loop-device : goal.invariant-loop-device
invariant-loop-device l = find (is_bridge_to l.dump l.segment l.bus) (drop l.device-index l.device-items) ≡ find (is_bridge_to l.dump l.segment l.bus) l.device-items
