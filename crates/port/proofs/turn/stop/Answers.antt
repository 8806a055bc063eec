use Rattle.std.proofs.Common.{inl}
use Rattle.port.proofs.Stopping.{refused_of}
use Rattle.port.proofs.turn.stop.Goals as goal

pub returns-in-Refused-clause-moved : goal.returns-in-Refused-clause-moved
returns-in-Refused-clause-moved g c = λ e. let w = c.refuse_at.ensures.refused c.in-Refused.is in
    rw (← c.port.view_is) (inl (refused_of g.D.Desk.refuses _ _ _ _ _ _ _ w.0 c.answer_waits_at.ensures.sent w.1 c.prepare.ensures.reported c.report_or_hold.ensures.told))
