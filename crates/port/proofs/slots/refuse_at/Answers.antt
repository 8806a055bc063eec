use Rattle.switch_output.specs.Vetted.{frame_in}
use Rattle.port.proofs.OneLane.{put_at, kept_at, refused_kept}
use Rattle.port.proofs.slots.refuse_at.Goals as goal

pub returns-clause-refused : goal.returns-clause-refused
returns-clause-refused g c = λ e. let w = c.refuse.ensures.refused e in (
  record {
    frame = w.0.frame;
    answer = w.0.answer;
    put = w.0.put;
    taken = w.0.taken;
    given = w.0.given;
    added = put_at g.O.LaneOut.sent c.args.outs.now c.args.own c.index-outs-own.result c.refuse.new.back _ c.requires.lane w.0.added;
    answered = w.0.answered;
  },
  w.1,
)

pub returns-clause-strayed : goal.returns-clause-strayed
returns-clause-strayed g c = λ e. let w = c.refuse.ensures.strayed e in
    (w.0, kept_at g.O.LaneOut.sent c.args.outs.now c.args.own c.index-outs-own.result c.refuse.new.back w.1, w.2, w.3)

pub returns-clause-idle : goal.returns-clause-idle
returns-clause-idle g c = λ e. let w = c.refuse.ensures.idle e in
    (w.0, kept_at g.O.LaneOut.sent c.args.outs.now c.args.own c.index-outs-own.result c.refuse.new.back w.1, w.2, w.3, w.4)

pub returns-clause-memory : goal.returns-clause-memory
returns-clause-memory g c = λ e. let w = c.refuse.ensures.memory e in
    (w.0, kept_at g.O.LaneOut.sent c.args.outs.now c.args.own c.index-outs-own.result c.refuse.new.back w.1, w.2, w.3, w.4)

pub returns-clause-lanes : goal.returns-clause-lanes
returns-clause-lanes g c = kept_at g.O.LaneOut.lane c.args.outs.now c.args.own c.index-outs-own.result c.refuse.new.back c.refuse.ensures.lane

pub returns-clause-kept : goal.returns-clause-kept
returns-clause-kept g c = refused_kept g.O.LaneOut.may_refuse c.args.outs.now c.args.own c.index-outs-own.result c.requires.lane (frame_in c.refuse.new.kept) c.refuse.ensures.kept
