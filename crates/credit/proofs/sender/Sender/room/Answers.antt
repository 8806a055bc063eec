use Rattle.std.proofs.Common.{ap, ◌∙◌, subst, arith}
use Rattle.credit.specs.Limits.{Ledger, credits_at, IsInRange}
use Rattle.credit.proofs.Standing.{through, room-exact, room-allowed, room-gate}
use Rattle.credit.proofs.sender.Sender.room.Goals as goal

pub returns-clause-exact : goal.returns-clause-exact
returns-clause-exact c = room-exact c.args.self.now c.args.cost c.get.result c.covers.result c.of.result c.of-2.result c.get.ensures.value
    (c.of.ensures ∙ ap (λ (s : Ledger). credits_at s.credits_consumed c.args.cost.class) c.self.view_is)
    (c.of-2.ensures ∙ ap (λ (s : Ledger). credits_at s.credit_limit c.args.cost.class) c.self.view_is)
    c.covers.ensures

pub returns-clause-totals : goal.returns-clause-totals
returns-clause-totals c sent limit stands =
    through (returns-clause-exact c) (room-allowed sent limit c.args.self.now c.args.cost (subst IsInRange c.self.view_is c.self.invariant) stands)

pub returns-clause-gate : goal.returns-clause-gate
returns-clause-gate c sent limit stands =
    let few = c.get.ensures.few in
    through (returns-clause-exact c) (room-gate sent limit c.args.self.now c.args.cost (subst IsInRange c.self.view_is c.self.invariant) stands (omega (arith, few)))
