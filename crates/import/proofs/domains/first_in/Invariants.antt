use Rattle.std.proofs.Common.{◌≡◌, drop}
use Rattle.std.specs.List.{find}
use Rattle.import.specs.Domains.{is_in}
use Rattle.import.proofs.domains.first_in.Given as goal

abbrev pub invariant-loop-owner : goal.invariant-loop-owner
invariant-loop-owner l = find (λ owner. is_in l.port l.buses owner.location) (drop l.owner-index l.owners) ≡ find (λ owner. is_in l.port l.buses owner.location) l.owners
