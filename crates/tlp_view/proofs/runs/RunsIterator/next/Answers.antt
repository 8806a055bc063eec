use Rattle.std.proofs.Common.{length, ap, sym, ◌∙◌, arith}
use Rattle.tlp_view.specs.Runs.{is_enabled}
use Rattle.tlp_view.proofs.RunsFrom.{runs_from-end, next_none, next_some}
use Rattle.tlp_view.proofs.runs.RunsIterator.next.Goals as goal

pub returns-then-start-count-clause-steps : goal.returns-then-start-count-clause-steps
returns-then-start-count-clause-steps c =
    let found = c.first_enabled-start.ensures in
    let xs = c.self.inside.payload.now in
    let p = is_enabled c.self.inside.enables (length xs) in (
      sym c.self.view_is ∙ next_none p xs c.self.inside.at c.first_enabled-start.result found.low found.high found.before c.if-start-count.true,
      runs_from-end p xs c.first_disabled-end.result (omega (arith, c.first_disabled-end.ensures.low, c.if-start-count.true)),
    )

pub returns-then-start-count-clause-goes : goal.returns-then-start-count-clause-goes
returns-then-start-count-clause-goes c = record { on = λ _. tt; keeps = tt; rests = λ _. tt }

pub returns-clause-steps : goal.returns-clause-steps
returns-clause-steps c =
    let found = c.first_enabled-start.ensures in
    let ended = c.first_disabled-end.ensures in
    let xs = c.self.inside.payload.now in
    let p = is_enabled c.self.inside.enables (length xs) in
    sym c.self.view_is ∙ next_some p xs c.self.inside.at c.first_enabled-start.result found.low found.high found.before c.first_disabled-end.result found.here ended.low ended.high ended.before ended.here c.if-start-count.false

pub returns-clause-goes : goal.returns-clause-goes
returns-clause-goes c =
    record { on = λ _. (tt, tt, omega (arith, ap length (returns-clause-steps c))); keeps = tt; rests = λ _. tt }
