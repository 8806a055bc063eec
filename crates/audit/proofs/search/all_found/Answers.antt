use Rattle.std.proofs.Common.{◌<◌, List, length, subst, sym, take}
use Rattle.attacks.specs.declared.attack.Way.{Way}
use Rattle.audit.specs.Telling.{AreFound, ways}
use Rattle.audit.proofs.Lists.{found_all, found_first, found_next}
use Rattle.audit.proofs.search.all_found.Goals as goal

pub loop-way-init : goal.loop-way-init
loop-way-init c = found_first c.args.setting.now.layout.now c.args.attacker.now c.args.victim.now c.ways-ways.result _ c.new-all.ensures.items

pub loop-way-preserved : goal.loop-way-preserved
loop-way-preserved c =
    let within : c.loop-way.way-index < length c.ways-ways.result = subst (λ (ws : List Way). c.loop-way.way-index < length ws) (sym c.ways-ways.ensures) c.loop-way-test.true in
    found_next c.args.setting.now.layout.now c.args.attacker.now c.args.victim.now c.ways-ways.result c.loop-way.way-index _ _ _ within c.loop-way.invariant c.in_ok-add_found.ensures

pub returns : goal.returns
returns c =
    let before : AreFound c.args.setting.now.layout.now c.args.attacker.now c.args.victim.now (take c.loop-way.way-index ways) c.loop-way.all.items =
    subst (λ (ws : List Way). AreFound c.args.setting.now.layout.now c.args.attacker.now c.args.victim.now (take c.loop-way.way-index ws) c.loop-way.all.items) c.ways-ways.ensures
    c.loop-way.invariant in
    found_all c.args.setting.now.layout.now c.args.attacker.now c.args.victim.now ways c.loop-way.way-index _ c.loop-way-test.false before
