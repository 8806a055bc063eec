use Rattle.layout.proofs.Vectors.{GivenBefore}
use Rattle.layout.proofs.additions.give_vector.Given as goal

abbrev pub invariant-loop-place : goal.invariant-loop-place
invariant-loop-place l = GivenBefore l.egress l.place l.ports l.fn.ports
