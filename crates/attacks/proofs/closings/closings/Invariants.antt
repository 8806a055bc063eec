use Rattle.std.proofs.Common.{◌≡◌, take}
use Rattle.std.specs.List.{flat_map}
use Rattle.attacks.specs.Closings.{closings_of}
use Rattle.attacks.proofs.closings.closings.Given as goal

-- the reads so far have theirs
abbrev pub invariant-loop-read : goal.invariant-loop-read
invariant-loop-read l = l.attacks.items ≡ flat_map (closings_of l.maps) (take l.read-index l.reads)
