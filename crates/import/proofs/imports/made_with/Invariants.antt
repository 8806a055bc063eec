use Rattle.std.proofs.Common.{◌≡◌, drop}
use Rattle.std.specs.List.{fold}
use Rattle.import.specs.Devices.{no_devices, with_device}
use Rattle.import.proofs.imports.made_with.Given as goal

abbrev pub invariant-loop-device : goal.invariant-loop-device
invariant-loop-device l =
    (fold (with_device l.text l.source.dump.now l.source.tree l.source.owners.now l.vectors) l.devices (drop l.device-index l.device-items)
    ≡ fold (with_device l.text l.source.dump.now l.source.tree l.source.owners.now l.vectors) (no_devices l.vectors) l.device-items)
    × (l.names ≡ l.text)
