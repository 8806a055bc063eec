use Rattle.std.proofs.Common.{◌↔◌, ◌&&◌, IsTrue, subst}
use Rattle.credit.specs.Limits.{Ledger, IsUpdate}
use Rattle.credit.proofs.Standing.{update-exact}
use Rattle.credit.proofs.sender.Sender.accepts.Goals as goal

pub returns : goal.returns
returns c =
    let old : Ledger = record { credits_consumed = c.self.inside.credits_consumed; credit_limit = c.self.inside.credit_limit; start = c.self.inside.start } in
    let P : Ledger → Type 0 = λ s. IsTrue ((c.accepts_class-posted.result && c.accepts_class-non_posted.result) && c.accepts_class-completion.result) ↔ IsUpdate s c.args.limits in
    subst P c.self.view_is (update-exact old c.args.limits _ _ _ c.accepts_class-posted.ensures c.accepts_class-non_posted.ensures c.accepts_class-completion.ensures)
