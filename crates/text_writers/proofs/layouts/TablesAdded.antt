-- Budgets and credits are added.
use Rattle.std.proofs.Common.{◌≡◌, ◌==◌, true, refl, ap, subst, ◌∙◌, List, [], ◌∷◌, ◌++◌, Some, None}
use Rattle.std.specs.Prelude.{map}
use Rattle.std.specs.List.{list_all}
use Rattle.platform.specs.declared.parts.BudgetLine.{BudgetLine}
use Rattle.platform.specs.declared.parts.CreditLine.{CreditLine}
use Rattle.platform.specs.Owners.{owns_port}
use Rattle.platform.specs.Platform.{Platform}
use Rattle.platform.specs.Tree.{is_taken}
use Rattle.layout.specs.Laws.{IsPlatform, each_pair, is_good_budget, is_good_credit}
use Rattle.layout.specs.Rules.{budget_fault, credit_fault, fault_of, has_good_credits}
use Rattle.text_writers.specs.HasLines.{HasLines, are_of_other_domains, are_of_other_links}
use Rattle.text_writers.specs.PlatformLines.{budget_says, credit_says}
use Rattle.text_writers.proofs.layouts.After.{after, all-after, map-lines, one-after}
use Rattle.text_writers.proofs.layouts.Lists.{all-at, none-passes, pair-front}
use Rattle.text_writers.proofs.layouts.Rules.{is-false, no-not, or-no, skip}
use Rattle.text_writers.proofs.layouts.Stripped.{owns-stripped, stage, stripped}

module _ (p : Platform) (is : IsPlatform p) (has : HasLines p) where
  -- ---- budgets

  abbrev budgets_so_far : List BudgetLine → List BudgetLine → Platform
  budgets_so_far done rest = stage p p.switches (map stripped p.ports) p.functions p.maps done []

  budget-fits : (done : List BudgetLine) (line : BudgetLine) (rest : List BudgetLine) → p.budgets ≡ done ++ line ∷ rest → fault_of (budgets_so_far done []) (budget_says line) ≡ None
  unfolding budget_fault
  budget-fits done line rest e =
      let owns : owns_port p.ports line.domain ≡ true = all-at (λ (x : BudgetLine). owns_port p.ports x.domain) done line rest (let P : List BudgetLine → Type 0 = λ budgets. list_all (λ (x : BudgetLine). owns_port p.ports x.domain) budgets ≡ true in subst P e has.owners) in
      let others : list_all (λ (x : BudgetLine). are_of_other_domains x line) done ≡ true = pair-front are_of_other_domains done line rest (let P : List BudgetLine → Type 0 = λ budgets. each_pair are_of_other_domains budgets ≡ true in subst P e has.budgets) in
      let good : is_good_budget line ≡ true = all-at is_good_budget done line rest (let P : List BudgetLine → Type 0 = λ budgets. list_all is_good_budget budgets ≡ true in subst P e is.limits.budgets) in
      skip _ _ _ (or-no _ _ (no-not _ (owns-stripped p.ports line.domain ∙ owns)) (none-passes (λ (x : BudgetLine). x.domain == line.domain) (λ (x : BudgetLine). are_of_other_domains x line) done (λ x h. is-false _ h) others))
      (skip _ _ _ (no-not _ good) refl)

  pub budgets-added : after (budgets_so_far [] []) (map budget_says p.budgets) ≡ Some (budgets_so_far p.budgets [])
  budgets-added =
      ap (after (budgets_so_far [] [])) (map-lines budget_says p.budgets)
      ∙ all-after (λ (line : BudgetLine). budget_says line ∷ []) budgets_so_far p.budgets
      (λ done line rest e. one-after (budgets_so_far done []) (budget_says line) (budgets_so_far (done ++ line ∷ []) []) (budget-fits done line rest e) refl)

  -- ---- credits

  abbrev credits_so_far : List CreditLine → List CreditLine → Platform
  credits_so_far done rest = stage p p.switches (map stripped p.ports) p.functions p.maps p.budgets done

  credit-fits : (done : List CreditLine) (line : CreditLine) (rest : List CreditLine) → p.credits ≡ done ++ line ∷ rest → fault_of (credits_so_far done []) (credit_says line) ≡ None
  unfolding credit_fault has_good_credits
  credit-fits done line rest e =
      let taken : is_taken p.switches p.functions line.id ≡ true = all-at (λ (x : CreditLine). is_taken p.switches p.functions x.id) done line rest (let P : List CreditLine → Type 0 = λ credits. list_all (λ (x : CreditLine). is_taken p.switches p.functions x.id) credits ≡ true in subst P e has.links) in
      let others : list_all (λ (x : CreditLine). are_of_other_links x line) done ≡ true = pair-front are_of_other_links done line rest (let P : List CreditLine → Type 0 = λ credits. each_pair are_of_other_links credits ≡ true in subst P e has.credits) in
      let good : is_good_credit line ≡ true = all-at is_good_credit done line rest (let P : List CreditLine → Type 0 = λ credits. list_all is_good_credit credits ≡ true in subst P e is.limits.credits) in
      skip _ _ _ (or-no _ _ (no-not _ taken) (none-passes (λ (x : CreditLine). x.id == line.id) (λ (x : CreditLine). are_of_other_links x line) done (λ x h. is-false _ h) others))
      (skip _ _ _ (no-not _ good) refl)

  pub credits-added : after (credits_so_far [] []) (map credit_says p.credits) ≡ Some (credits_so_far p.credits [])
  credits-added =
      ap (after (credits_so_far [] [])) (map-lines credit_says p.credits)
      ∙ all-after (λ (line : CreditLine). credit_says line ∷ []) credits_so_far p.credits
      (λ done line rest e. one-after (credits_so_far done []) (credit_says line) (credits_so_far (done ++ line ∷ []) []) (credit-fits done line rest e) refl)
