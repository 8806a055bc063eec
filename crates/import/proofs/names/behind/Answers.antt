use Rattle.std.proofs.Common.{◌≡◌, ◌∙◌, ℕ, ap, arith, drop, refl}
use Rattle.text.specs.Text.{pieces}
use Rattle.import.proofs.Naming.{line_missing, line_passed}
use Rattle.import.proofs.names.behind.Goals as goal

pub loop-init : goal.loop-init
loop-init c = (refl, omega arith)

pub returns-in_err-parts : goal.returns-in_err-parts
returns-in_err-parts c = rw c.from_residual.ensures (line_missing c.loop.counter c.args.count c.loop.rest.now c.args.text.now c.loop-test.true c.in_err-parts.ensures.parts c.loop.invariant.0)

pub loop-preserved : goal.loop-preserved
loop-preserved c = (
  line_passed c.loop.counter c.in_ok-parts.parts.before.now c.in_ok-parts.parts.after.now c.loop.rest.now c.args.text.now c.in_ok-parts.ensures.parts c.loop.invariant.0,
  omega (arith, c.loop-test.true),
)

pub returns : goal.returns
returns c =
    let all : c.loop.counter ≡ c.args.count = omega (arith, c.loop-test.false, c.loop.invariant.1) in
    c.loop.invariant.0 ∙ ap (λ (n : ℕ). drop n (pieces c.args.text.now)) all
