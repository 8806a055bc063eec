use Rattle.std.proofs.Common.{◌≡◌, drop}
use Rattle.import.specs.Imports.{unplaced}
use Rattle.import.proofs.imports.unplaced.Given as goal

abbrev pub invariant-loop-owner : goal.invariant-loop-owner
invariant-loop-owner l = unplaced l.left_out (drop l.owner-index l.owners) ≡ unplaced l.left_out l.owners
