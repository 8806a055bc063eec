use Rattle.std.proofs.Common.{Bool, sym, ap, ◌∙◌}
use Rattle.lane.specs.Lanes.{Class}
use Rattle.port.specs.Blocked.{may_refuse_answer}
use Rattle.port.proofs.OneLane.{kept_at, counted_at, refused_at, refused_again}
use Rattle.port.proofs.slots.answer_waits_at.Goals as goal

pub returns-clause-lanes : goal.returns-clause-lanes
returns-clause-lanes g c = kept_at g.O.LaneOut.lane c.args.outs.now c.args.own c.index-outs-own.result c.answer_waits.new.back c.answer_waits.ensures.lane

pub returns-clause-sent : goal.returns-clause-sent
returns-clause-sent g c = kept_at g.O.LaneOut.sent c.args.outs.now c.args.own c.index-outs-own.result c.answer_waits.new.back c.answer_waits.ensures.sent

pub returns-clause-cause : goal.returns-clause-cause
returns-clause-cause g c = λ e same.
    c.answer_waits.ensures.cause e (counted_at g.O.LaneOut.refusals c.args.outs.now c.args.own c.index-outs-own.result c.answer_waits.new.back c.requires same)

pub returns-clause-full : goal.returns-clause-full
returns-clause-full g c = λ e. let at = refused_at g.O.LaneOut.may_refuse c.args.outs.now c.args.own c.index-outs-own.result c.requires in
    ap (λ (may : Class → Bool). may_refuse_answer may c.args.class) at ∙ c.answer_waits.ensures.full e

pub returns-clause-exact : goal.returns-clause-exact
returns-clause-exact g c = λ sure. let at = refused_at g.O.LaneOut.may_refuse c.args.outs.now c.args.own c.index-outs-own.result c.requires in
    c.answer_waits.ensures.exact sure ∙ ap (λ (may : Class → Bool). may_refuse_answer may c.args.class) (sym at)

pub returns-clause-same : goal.returns-clause-same
returns-clause-same g c = refused_again g.O.LaneOut.may_refuse c.args.outs.now c.args.own c.index-outs-own.result c.answer_waits.new.back c.requires c.answer_waits.ensures.same
