use Rattle.std.proofs.Common.{◌==◌, sym, leb-true}
use Rattle.layout.specs.Laws.{is_good_budget}
use Rattle.platform.proofs.Bools.{and-first, and-second, all-found}
use Rattle.layout.proofs.views.budget_of.Goals as goal

pub returns-in-Some-clause-least : goal.returns-in-Some-clause-least
returns-in-Some-clause-least c = leb-true _ _ (and-first _ _ (all-found (λ line. line.domain == c.args.domain) is_good_budget c.args.budgets.now c.in-Some.line.now (sym c.in-Some.ensures) c.requires))

pub returns-in-Some-clause-most : goal.returns-in-Some-clause-most
returns-in-Some-clause-most c = leb-true _ _ (and-second _ _ (all-found (λ line. line.domain == c.args.domain) is_good_budget c.args.budgets.now c.in-Some.line.now (sym c.in-Some.ensures) c.requires))
