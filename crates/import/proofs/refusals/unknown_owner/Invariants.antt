use Rattle.std.proofs.Common.{◌≡◌, drop}
use Rattle.std.specs.List.{find}
use Rattle.std.specs.Prelude.{not}
use Rattle.import.specs.Refusals.{has_device}
use Rattle.import.proofs.refusals.unknown_owner.Given as goal

abbrev pub invariant-loop-owner : goal.invariant-loop-owner
invariant-loop-owner l = find (λ owner. not (has_device l.dump owner.location)) (drop l.owner-index l.owners) ≡ find (λ owner. not (has_device l.dump owner.location)) l.owners
