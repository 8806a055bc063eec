use Rattle.std.proofs.Common.{IsTrue, sym, subst}
use Rattle.credit.specs.Limits.{Ledger, IsInRange, IsUpdate}
use Rattle.credit.proofs.Standing.{update-in_range, advertised-update}
use Rattle.credit.proofs.sender.Sender.update.Goals as goal

pub invariant_of-self : goal.invariant_of-self
invariant_of-self c =
    let old : Ledger = record { credits_consumed = c.self.inside.credits_consumed; credit_limit = c.self.inside.credit_limit; start = c.self.inside.start } in
    let P : Ledger → Type 0 = λ s. IsUpdate s c.args.limits in
    update-in_range old c.args.limits c.self.invariant (subst P (sym c.self.view_is) (c.accepts-accepted.ensures.0 c.if-accepted.true))

pub returns-else-accepted-clause-totals : goal.returns-else-accepted-clause-totals
returns-else-accepted-clause-totals c sent limit advertised stands counts grows =
    let range : IsInRange c.args.self.now = subst IsInRange c.self.view_is c.self.invariant in
    let accepted : IsTrue c.accepts-accepted.result = c.accepts-accepted.ensures.1 (advertised-update sent limit advertised c.args.self.now c.args.limits range stands counts grows) in
    let refused = c.if-accepted.false in
    cc
