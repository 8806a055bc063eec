use Rattle.std.proofs.Common.{ℕ, Some, ap, subst, ◌∙◌}
use Rattle.audit.specs.Landing.{IsRefused}
use Rattle.audit.specs.Telling.{witness_by}
use Rattle.audit.proofs.Trials.{closed, own_refused, refused}
use Rattle.audit.proofs.landing.closes.Goals as goal

pub returns-in_default : goal.returns-in_default
returns-in_default c =
    let by = subst (λ (n : ℕ). IsRefused c.args.setting.now.layout.now n c.args.attack.now.function c.in_ok-packet.packet) c.submitter-by.ensures (c.in_ok-raced.ensures.refused c.in_default.is) in
    refused _ (witness_by c.args.attacker c.args.victim c.args.attack.now) (Some c.args.read.now) c.in_ok-packet.packet c.in_ok-packet.ensures by

pub returns-in_default-2 : goal.returns-in_default-2
returns-in_default-2 c =
    own_refused _ (witness_by c.args.attacker c.args.victim c.args.attack.now) c.args.read.now c.in_ok-own.own c.in_ok-own.ensures (c.in_ok-alone.ensures.refused c.in_default-2.is)

pub returns : goal.returns
returns c =
    let own = rw c.in-Some.is at c.in_ok-raced.ensures.own in
    closed c.args.setting.now.layout.now (witness_by c.args.attacker c.args.victim c.args.attack.now) c.args.read.now c.in-Some-2.alone c.in-Some.raced c.in_ok-packet.packet c.in_ok-own.own
    c.is_closed_by_another-is_closed.result c.in_ok-packet.ensures c.in_ok-own.ensures (own ∙ ap Some c.submitter-by.ensures) (rw c.in-Some.is at c.in_ok-raced.ensures.race)
    (rw c.in-Some-2.is at c.in_ok-alone.ensures.own) (rw c.in-Some-2.is at c.in_ok-alone.ensures.run) c.is_closed_by_another-is_closed.ensures
