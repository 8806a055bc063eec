use Rattle.audit.specs.Telling.{couple_of}
use Rattle.audit.proofs.Lists.{adds_next}
use Rattle.audit.proofs.search.add_pairs.Goals as goal

pub loop-victim-preserved : goal.loop-victim-preserved
loop-victim-preserved c =
    adds_next _ (couple_of c.args.attacker.now) c.args.domains.now c.loop-victim.victim-index c.victim-item.result _ _ _ c.loop-victim-test.true c.victim-item.is c.loop-victim.invariant c.in_ok-add_pair.ensures
