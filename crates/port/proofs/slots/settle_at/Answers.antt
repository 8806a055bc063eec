use Rattle.port.proofs.OneLane.{put_at, kept_at, counted_at, left_at}
use Rattle.port.proofs.slots.settle_at.Goals as goal

pub returns-clause-put : goal.returns-clause-put
returns-clause-put g c = λ e. let w = c.settle.ensures.put e in
    (w.0, put_at g.O.LaneOut.sent c.args.outs.now c.args.own c.index-outs-own.result c.settle.new.back _ c.requires w.1)

pub returns-clause-counted : goal.returns-clause-counted
returns-clause-counted g c = λ e. kept_at g.O.LaneOut.refusals c.args.outs.now c.args.own c.index-outs-own.result c.settle.new.back (c.settle.ensures.counted e)

pub returns-clause-rests : goal.returns-clause-rests
returns-clause-rests g c = λ e. let w = c.settle.ensures.rests e in
    (w.0, kept_at g.O.LaneOut.sent c.args.outs.now c.args.own c.index-outs-own.result c.settle.new.back w.1)

pub returns-clause-cause : goal.returns-clause-cause
returns-clause-cause g c = λ e same. let w = c.settle.ensures.rests e in
    w.2 (counted_at g.O.LaneOut.refusals c.args.outs.now c.args.own c.index-outs-own.result c.settle.new.back c.requires same)

pub returns-clause-lanes : goal.returns-clause-lanes
returns-clause-lanes g c = kept_at g.O.LaneOut.lane c.args.outs.now c.args.own c.index-outs-own.result c.settle.new.back c.settle.ensures.lane

pub returns-clause-nothing_kept : goal.returns-clause-nothing_kept
returns-clause-nothing_kept g c = λ none. left_at c.args.outs.now c.args.own c.index-outs-own.result c.settle.new.back (c.settle.ensures.nothing_kept none)
