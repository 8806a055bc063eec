use Rattle.std.proofs.Common.{◌≡◌, None, subst}
use Rattle.platform.specs.Share.{Share}
use Rattle.domain.specs.Machine.{change}
use Rattle.domain.proofs.Replaying.{replay_stops, there_is}
use Rattle.domain.proofs.domain.Domain.replay.Goals as goal

pub returns-in-Err-Illegal-clause-legal : goal.returns-in-Err-Illegal-clause-legal
returns-in-Err-Illegal-clause-legal c = λ s all.
    let entry = c.index-entries-i.result in
    let there = there_is c.args.entries.now c.loop-i.i entry c.loop-i-test.true c.index-entries-i.is in
    let illegal = subst (λ (share : Share). change share c.loop-i.domain.state entry ≡ None) c.loop-i.invariant.share (c.in-Err-Illegal.ensures.illegal c.in-Err-Illegal.field-0-is) in
    absurd (replay_stops c.args.start.now c.args.entries.now c.loop-i.i c.loop-i.domain.state s entry c.loop-i.invariant.state there illegal all)
