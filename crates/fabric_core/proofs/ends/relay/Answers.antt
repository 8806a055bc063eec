use Rattle.fabric_core.proofs.effect.Room.{place_left}
use Rattle.fabric_core.proofs.ends.relay.Goals as goal

pub put_at-requires-clause-place : goal.put_at-requires-clause-place
put_at-requires-clause-place c =
    place_left c.args.class _ c.in-Some-take_at.ensures.taken.0 c.in-Some-take_at.frame c.args.end c.in-Some.exit _ _ _ c.is_full_at.result c.in-Some-take_at.ensures.taken.1
    c.is_full_at.ensures.full c.is_full_at.ensures.same c.if-is_full_at.false c.in-Some-take_at.ensures.taken.2
