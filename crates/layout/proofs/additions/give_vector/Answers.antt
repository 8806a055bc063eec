use Rattle.layout.proofs.Vectors.{given_more}
use Rattle.layout.proofs.additions.give_vector.Goals as goal

pub loop-place-preserved : goal.loop-place-preserved
loop-place-preserved c =
    given_more c.args.egress.now c.loop-place.ports c.args.ports.now c.loop-place.place c.index-ports-place.result c.with_vector.result c.loop-place-test.true c.with_vector.ensures c.loop-place.invariant
