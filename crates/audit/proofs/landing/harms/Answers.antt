use Rattle.std.proofs.Common.{ℕ, None, Some, ap, subst, ◌∙◌}
use Rattle.audit.specs.Landing.{IsRefused}
use Rattle.audit.specs.Telling.{witness_by}
use Rattle.audit.proofs.Trials.{refused, shown}
use Rattle.audit.proofs.landing.harms.Goals as goal

pub returns-in_default : goal.returns-in_default
returns-in_default c =
    let by = subst (λ (n : ℕ). IsRefused c.args.setting.now.layout.now n c.args.attack.now.function c.in_ok-packet.packet) c.submitter-by.ensures (c.in_ok-end.ensures.refused c.in_default.is) in
    refused _ (witness_by c.args.attacker c.args.victim c.args.attack.now) None c.in_ok-packet.packet c.in_ok-packet.ensures by

pub returns : goal.returns
returns c =
    let own = rw c.in-Some.is at c.in_ok-end.ensures.own in
    shown c.args.setting.now.layout.now (witness_by c.args.attacker c.args.victim c.args.attack.now) c.args.setting.now.start c.in-Some.end c.in_ok-bytes.bytes c.in_ok-packet.packet c.shows-is_shown.result
    c.requires.start c.in_ok-bytes.ensures c.in_ok-packet.ensures (own ∙ ap Some c.submitter-by.ensures) (rw c.in-Some.is at c.in_ok-end.ensures.run) c.shows-is_shown.ensures
