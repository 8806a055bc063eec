use Rattle.std.proofs.Common.{sym, subst}
use Rattle.credit.specs.Limits.{Counters, Allotment}
use Rattle.credit.specs.Totals.{Count, with_cost}
use Rattle.credit.proofs.Counting.{Count-counted}
use Rattle.credit.proofs.receiver.Receiver.free.Goals as goal

pub returns-clause-totals : goal.returns-clause-totals
returns-clause-totals c total counts =
    let P : Counters → Type 0 = λ x. Count (with_cost total c.args.cost) x in
    let Q : Allotment → Type 0 = λ r. Count total r.credits_allocated in
    subst P (sym c.plus-self-inside.ensures) (Count-counted total c.self.inside.credits_allocated c.args.cost (subst Q (sym c.self.view_is) counts))
