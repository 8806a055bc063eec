use Rattle.fabric_core.proofs.effect.Room.{place_for}
use Rattle.fabric_core.proofs.wires.enter.Goals as goal

pub put_at-requires-clause-place : goal.put_at-requires-clause-place
put_at-requires-clause-place c = place_for c.args.class _ c.in-Some-take.ensures.taken.0 c.in-Some-take.frame c.in-Some.end _ _ c.is_full_at.result c.in-Some-take.ensures.taken.1 c.is_full_at.ensures.full c.is_full_at.ensures.same c.if-is_full_at.false
