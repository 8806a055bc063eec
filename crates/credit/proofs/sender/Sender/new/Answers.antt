use Rattle.std.proofs.Common.{sym, subst}
use Rattle.credit.specs.Limits.{Counters, IsInRange}
use Rattle.credit.proofs.Standing.{start-in_range}
use Rattle.credit.proofs.sender.Sender.new.Goals as goal

pub invariant_of-result : goal.invariant_of-result
invariant_of-result c =
    let P : Counters → Type 0 = λ x. IsInRange (record { credits_consumed = x; credit_limit = c.args.limits; start = c.args.limits }) in
    subst P (sym c.zero.ensures) (start-in_range c.args.limits c.requires)
