use Rattle.std.proofs.Common.{sym, subst}
use Rattle.credit.specs.Limits.{Counters, Ledger, IsInRange, HasRoom}
use Rattle.credit.specs.Totals.{StandsFor, with_cost}
use Rattle.credit.proofs.Standing.{spent-in_range, spent-stands}
use Rattle.credit.proofs.sender.Sender.spend.Goals as goal

pub invariant_of-self : goal.invariant_of-self
invariant_of-self c =
    let old : Ledger = record { credits_consumed = c.self.inside.credits_consumed; credit_limit = c.self.inside.credit_limit; start = c.self.inside.start } in
    let P : Counters → Type 0 = λ x. IsInRange (record old { credits_consumed = x }) in
    let R : Ledger → Type 0 = λ s. HasRoom s c.args.cost in
    subst P (sym c.plus-self-inside.ensures) (spent-in_range old c.args.cost c.self.invariant (subst R (sym c.self.view_is) c.requires))

pub returns-clause-totals : goal.returns-clause-totals
returns-clause-totals c sent limit stands =
    let old : Ledger = record { credits_consumed = c.self.inside.credits_consumed; credit_limit = c.self.inside.credit_limit; start = c.self.inside.start } in
    let P : Counters → Type 0 = λ x. StandsFor (with_cost sent c.args.cost) limit (record old { credits_consumed = x }) in
    let R : Ledger → Type 0 = λ s. HasRoom s c.args.cost in
    subst P (sym c.plus-self-inside.ensures)
    (spent-stands sent limit old c.args.cost c.self.invariant (subst R (sym c.self.view_is) c.requires) (subst (StandsFor sent limit) (sym c.self.view_is) stands))
