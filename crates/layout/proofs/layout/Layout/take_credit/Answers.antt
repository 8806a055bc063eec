use Rattle.std.proofs.Common.{◌≡◌, ◌++◌, ◌∷◌, [], List, None, cond}
use Rattle.std.specs.Prelude.{is_ok}
use Rattle.platform.specs.declared.parts.CreditLine.{CreditLine}
use Rattle.platform.specs.Platform.{Platform}
use Rattle.layout.specs.Laws.{IsPlatform}
use Rattle.layout.specs.Layouts.{platform_of}
use Rattle.layout.specs.Rules.{credit_fault}
use Rattle.layout.specs.Additions.{credit_line}
use Rattle.layout.proofs.Keeping.{keeps-credit, kept-either}
use Rattle.layout.proofs.layout.Layout.take_credit.Goals as goal

pub invariant_of-self : goal.invariant_of-self
invariant_of-self c =
    let p : Platform = platform_of c.self.inside in
    let good : None ≡ credit_fault p c.args.credit.now = cc (c.self.view_is, c.in_default.ensures.value) in
    let items : c.push.new.self.items ≡ cond (is_ok c.push.result) (p.credits ++ credit_line c.args.credit.now ∷ []) p.credits = rw c.limits_of_text.ensures at c.push.ensures.items in
    record {
      platform = kept-either IsPlatform (is_ok c.push.result) p.credits (p.credits ++ credit_line c.args.credit.now ∷ []) c.push.new.self.items (λ (xs : List CreditLine). record p { credits = xs }) items c.self.invariant.platform (keeps-credit p c.args.credit.now c.self.invariant.platform good);
      places = record { apart = c.self.invariant.places.apart; top = c.self.invariant.places.top; functions = c.self.invariant.places.functions };
    }
