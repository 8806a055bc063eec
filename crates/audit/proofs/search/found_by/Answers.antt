use Rattle.std.proofs.Common.{ℕ, ◌∙◌, sym}
use Rattle.attacks.specs.Tries.{tries}
use Rattle.audit.specs.Telling.{witness_by}
use Rattle.audit.proofs.Lists.{found_by_one, next_fails, next_lands, none_of_all}
use Rattle.audit.proofs.search.found_by.Goals as goal

pub returns-then-is_some : goal.returns-then-is_some
returns-then-is_some c =
    let p = c.args.setting.now.layout.now in
    let t = c.args.target.now in
    let found = found_by_one p t c.args.way c.args.attacker c.args.victim c.function-item.result c.deref.result.now c.in_ok-found.found (c.deref.ensures.value ∙ c.in_ok-attacks.ensures) c.in_ok-found.ensures in
    next_lands p (witness_by c.args.attacker c.args.victim) (λ (function : ℕ). tries p c.args.way function t) c.args.functions.now c.loop-function.function-index c.function-item.result c.loop-function-test.true c.function-item.is c.loop-function.invariant
    c.in_ok-found.found (sym c.is_some.ensures ∙ c.if-is_some.true) found

pub loop-function-preserved : goal.loop-function-preserved
loop-function-preserved c =
    let p = c.args.setting.now.layout.now in
    let t = c.args.target.now in
    let found = found_by_one p t c.args.way c.args.attacker c.args.victim c.function-item.result c.deref.result.now c.in_ok-found.found (c.deref.ensures.value ∙ c.in_ok-attacks.ensures) c.in_ok-found.ensures in
    next_fails p (witness_by c.args.attacker c.args.victim) (λ (function : ℕ). tries p c.args.way function t) c.args.functions.now c.loop-function.function-index c.function-item.result c.loop-function-test.true c.function-item.is c.loop-function.invariant
    c.in_ok-found.found (sym c.is_some.ensures ∙ c.if-is_some.false) found

pub returns : goal.returns
returns c =
    none_of_all c.args.setting.now.layout.now (witness_by c.args.attacker c.args.victim) (λ (function : ℕ). tries c.args.setting.now.layout.now c.args.way function c.args.target.now) c.args.functions.now c.loop-function.function-index
    c.loop-function-test.false c.loop-function.invariant
