use Rattle.std.proofs.Common.{map, sym, ◌∙◌, inl, inr, ⊎_elim}
use Rattle.port.specs.Turns.{sight_with}
use Rattle.port.proofs.Stopping.{stops_advance}
use Rattle.port.proofs.Wanting.{stopped_wants}
use Rattle.port.proofs.turn.proceed.Goals as goal

pub returns-in-Stop-clause-cause : goal.returns-in-Stop-clause-cause
returns-in-Stop-clause-cause g c = λ e. ⊎_elim (λ h. inl (λ same. h (same ∙ sym c.in-Some.ensures.counted))) inr (c.stop.ensures.cause e)

pub returns-in-Stop-clause-memory : goal.returns-in-Stop-clause-memory
returns-in-Stop-clause-memory g c = λ e.
    stopped_wants g.D.Desk.wants g.D.Desk.unknown c.args.bridge.now c.args.port.now.config (g.D.Desk.known c.args.desk.now) c.args.class (g.I.LaneIn.waiting c.args.input.now) _ c.in-Some.head c.in-Stop.report
    c.in-Some.ensures.found c.in-Some.ensures.waiting c.in-Stop.ensures.value (c.stop.ensures.memory e)

pub returns-in-Stop-clause-moved : goal.returns-in-Stop-clause-moved
returns-in-Stop-clause-moved g c = λ e.
    let port = c.args.port.now in
    let new = sight_with (g.I.LaneIn.waiting c.stop.new.input) (map g.O.LaneOut.sent c.stop.new.outs) (g.D.Desk.known c.stop.new.desk) (g.R.Reporter.reported c.stop.new.reporter) c.stop.new.port in
    stops_advance g.D.Desk.refuses g.D.Desk.unknown c.args.bridge.now port.config c.args.class c.in-Stop.report c.in-Some.head (g.I.LaneIn.waiting c.args.input.now) (g.I.LaneIn.waiting c.head.new.self) (map g.O.LaneOut.sent c.args.outs.now)
    (g.D.Desk.known c.args.desk.now) (g.R.Reporter.reported c.args.reporter.now) port new c.in-Some.ensures.found (sym c.in-Stop.ensures.value) c.head.ensures.waiting (c.stop.ensures.moved e)
