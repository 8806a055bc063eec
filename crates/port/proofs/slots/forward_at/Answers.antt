use Rattle.std.proofs.Common.{ap, ◌∙◌, inl, inr, ⊎_elim, Bool}
use Rattle.port.proofs.OneLane.{put_at, kept_at, counted_at, refused_at}
use Rattle.lane.specs.Lanes.{Class}
use Rattle.port.proofs.slots.forward_at.Goals as goal

pub returns-clause-moved : goal.returns-clause-moved
returns-clause-moved g c = λ e. let w = c.forward.ensures.moved e in record {
  frame = w.frame;
  taken = w.taken;
  went = ⊎_elim
      (λ p. inl (p.0, put_at g.O.LaneOut.sent c.args.outs.now c.args.lane c.index-outs-lane.result c.forward.new.out _ c.requires p.1, p.2))
      (λ p. inr (p.0, kept_at g.O.LaneOut.sent c.args.outs.now c.args.lane c.index-outs-lane.result c.forward.new.out p.1, p.2))
      w.went;
}

pub returns-clause-rests : goal.returns-clause-rests
returns-clause-rests g c = λ e. let w = c.forward.ensures.rests e in
    (w.0, kept_at g.O.LaneOut.sent c.args.outs.now c.args.lane c.index-outs-lane.result c.forward.new.out w.1, w.2)

pub returns-clause-cause : goal.returns-clause-cause
returns-clause-cause g c = λ e. ⊎_elim inl
    (λ h. inr (λ same. h (counted_at g.O.LaneOut.refusals c.args.outs.now c.args.lane c.index-outs-lane.result c.forward.new.out c.requires same)))
    (c.forward.ensures.cause e)

pub returns-clause-lanes : goal.returns-clause-lanes
returns-clause-lanes g c = kept_at g.O.LaneOut.lane c.args.outs.now c.args.lane c.index-outs-lane.result c.forward.new.out c.forward.ensures.lane

pub returns-clause-blocked : goal.returns-clause-blocked
returns-clause-blocked g c = λ e. let at = refused_at g.O.LaneOut.may_refuse c.args.outs.now c.args.lane c.index-outs-lane.result c.requires in
    ⊎_elim inl (λ h. inr (ap (λ (may : Class → Bool). may c.args.class) at ∙ h)) (c.forward.ensures.blocked e)

pub returns-clause-free : goal.returns-clause-free
returns-clause-free g c = λ sure e. let at = refused_at g.O.LaneOut.may_refuse c.args.outs.now c.args.lane c.index-outs-lane.result c.requires in
    ap (λ (may : Class → Bool). may c.args.class) at ∙ c.forward.ensures.free sure e
