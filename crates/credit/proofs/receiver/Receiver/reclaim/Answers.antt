use Rattle.std.proofs.Common.{sym, subst}
use Rattle.credit.specs.Limits.{Counters, Allotment}
use Rattle.credit.specs.Totals.{Count, with_cost}
use Rattle.credit.proofs.Counting.{Count-uncounted}
use Rattle.credit.proofs.receiver.Receiver.reclaim.Goals as goal

pub returns-clause-totals : goal.returns-clause-totals
returns-clause-totals c total counts =
    let P : Counters → Type 0 = λ x. Count total x in
    let Q : Allotment → Type 0 = λ r. Count (with_cost total c.args.cost) r.credits_allocated in
    subst P (sym c.minus-self-inside.ensures) (Count-uncounted total c.self.inside.credits_allocated c.args.cost (subst Q (sym c.self.view_is) counts))
