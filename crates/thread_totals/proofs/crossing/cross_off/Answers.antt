use Rattle.std.proofs.Common.{rules}
use Rattle.thread_totals.proofs.Crossed.{crossed_twice}
use Rattle.thread_totals.proofs.crossing.cross_off.Goals as goal

pub returns-then-not-cross_one-clause-more : goal.returns-then-not-cross_one-clause-more
returns-then-not-cross_one-clause-more c = λ wrong.
    crossed_twice c.args.domain c.args.names.now c.loop-name.name-index c.name-item.result c.loop-name-test.true c.name-item.is c.args.flying.now.items c.loop-name.flying.items (search rules) (search rules)
    c.loop-name.invariant
