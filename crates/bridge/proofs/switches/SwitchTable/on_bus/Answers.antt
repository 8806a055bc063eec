use Rattle.std.proofs.Common.{◌≡◌, ◌+◌, ℕ, ◌∙◌, sym, ap, arith}
use Rattle.std.specs.Option.{option_copied}
use Rattle.bridge.specs.Groups.{group_on}
use Rattle.bridge.proofs.Upstream.{on-below, none-on-zero}
use Rattle.bridge.proofs.switches.SwitchTable.on_bus.Goals as goal

pub returns-in_err-checked_sub : goal.returns-in_err-checked_sub
returns-in_err-checked_sub c =
    let never = c.in_err-checked_sub.ensures in
    let zero : c.args.bus ≡ 0 = omega arith in
    ap option_copied c.from_residual.ensures ∙ rw zero (sym (none-on-zero c.args.self.now))

pub returns : goal.returns
returns c =
    let was = c.in_ok-checked_sub.ensures in
    let next : c.in_ok-checked_sub.field-0 + 1 ≡ c.args.bus = omega arith in
    c.below_bus.ensures.value ∙ on-below c.args.self.now c.in_ok-checked_sub.field-0 ∙ ap (λ (bus : ℕ). group_on c.args.self.now bus) next
