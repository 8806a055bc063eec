use Rattle.audit.specs.Telling.{couples_of}
use Rattle.audit.proofs.Lists.{adds_next, adds_start, all_added}
use Rattle.audit.proofs.search.all_pairs.Goals as goal

pub loop-attacker-init : goal.loop-attacker-init
loop-attacker-init c = adds_start _ (couples_of c.args.domains.now) c.args.domains.now _ c.new-pairs.ensures.items

pub loop-attacker-preserved : goal.loop-attacker-preserved
loop-attacker-preserved c =
    adds_next _ (couples_of c.args.domains.now) c.args.domains.now c.loop-attacker.attacker-index c.attacker-item.result _ _ _ c.loop-attacker-test.true c.attacker-item.is c.loop-attacker.invariant c.in_ok-add_pairs.ensures

pub returns : goal.returns
returns c = all_added _ c.args.domains.now c.loop-attacker.attacker-index _ c.loop-attacker-test.false c.loop-attacker.invariant
