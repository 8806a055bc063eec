use Rattle.std.proofs.Common.{◌≡◌, ◌++◌, ◌∷◌, [], List, None, cond}
use Rattle.std.specs.Prelude.{is_ok}
use Rattle.platform.specs.declared.parts.BudgetLine.{BudgetLine}
use Rattle.platform.specs.Platform.{Platform}
use Rattle.layout.specs.Laws.{IsPlatform}
use Rattle.layout.specs.Layouts.{platform_of}
use Rattle.layout.specs.Rules.{budget_fault}
use Rattle.layout.specs.Additions.{budget_line}
use Rattle.layout.proofs.Keeping.{keeps-budget, kept-either}
use Rattle.layout.proofs.layout.Layout.take_budget.Goals as goal

pub invariant_of-self : goal.invariant_of-self
invariant_of-self c =
    let p : Platform = platform_of c.self.inside in
    let good : None ≡ budget_fault p c.args.budget.now = cc (c.self.view_is, c.in_default.ensures.value) in
    let items : c.push.new.self.items ≡ cond (is_ok c.push.result) (p.budgets ++ budget_line c.args.budget.now ∷ []) p.budgets = rw c.owner_of_number.ensures at c.push.ensures.items in
    record {
      platform = kept-either IsPlatform (is_ok c.push.result) p.budgets (p.budgets ++ budget_line c.args.budget.now ∷ []) c.push.new.self.items (λ (xs : List BudgetLine). record p { budgets = xs }) items c.self.invariant.platform (keeps-budget p c.args.budget.now c.self.invariant.platform good);
      places = record { apart = c.self.invariant.places.apart; top = c.self.invariant.places.top; functions = c.self.invariant.places.functions };
    }
