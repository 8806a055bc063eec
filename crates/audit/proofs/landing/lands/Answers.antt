use Rattle.std.proofs.Common.{◌∙◌, Option, subst, sym}
use Rattle.std.specs.Prelude.{IfOk}
use Rattle.attacks.specs.declared.own_read.OwnRead.{OwnRead}
use Rattle.audit.specs.Landing.{IsTried}
use Rattle.audit.specs.Telling.{witness_by}
use Rattle.audit.proofs.landing.lands.Goals as goal

pub returns-in-Some : goal.returns-in-Some
returns-in-Some c =
    subst (λ (read : Option OwnRead). IfOk c.closes.result (λ lands. IsTried lands c.args.setting.now.layout.now (witness_by c.args.attacker c.args.victim c.args.attack.now) read))
    (sym c.in-Some.is ∙ c.own_read.ensures) c.closes.ensures

pub returns-in-None : goal.returns-in-None
returns-in-None c =
    subst (λ (read : Option OwnRead). IfOk c.harms.result (λ lands. IsTried lands c.args.setting.now.layout.now (witness_by c.args.attacker c.args.victim c.args.attack.now) read))
    (sym c.in-None.is ∙ c.own_read.ensures) c.harms.ensures
