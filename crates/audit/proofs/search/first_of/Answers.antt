use Rattle.audit.specs.Telling.{witness_by}
use Rattle.audit.proofs.Lists.{all_fail, fails_more, found_at}
use Rattle.audit.proofs.search.first_of.Goals as goal

pub returns-in-Some : goal.returns-in-Some
returns-in-Some c =
    let told = rw c.in-Some.is at c.in_ok-witness.ensures in
    found_at _ (witness_by c.args.attacker c.args.victim) c.args.attacks.now c.loop-attack.attack-index c.attack-item.result c.in-Some.witness c.loop-attack-test.true c.attack-item.is c.loop-attack.invariant told.0 told.1

pub loop-attack-preserved : goal.loop-attack-preserved
loop-attack-preserved c =
    fails_more _ (witness_by c.args.attacker c.args.victim) c.args.attacks.now c.loop-attack.attack-index c.attack-item.result c.loop-attack-test.true c.attack-item.is c.loop-attack.invariant
    (rw c.in_default.is at c.in_ok-witness.ensures)

pub returns : goal.returns
returns c = all_fail _ (witness_by c.args.attacker c.args.victim) c.args.attacks.now c.loop-attack.attack-index c.loop-attack-test.false c.loop-attack.invariant
