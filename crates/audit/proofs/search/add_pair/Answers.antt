use Rattle.std.proofs.Common.{◌≢◌, rules}
use Rattle.audit.proofs.Lists.{adds_couple}
use Rattle.audit.proofs.search.add_pair.Goals as goal

pub returns : goal.returns
returns c =
    let other : c.args.attacker.now.share.domain ≢ c.args.victim.now.share.domain = search rules in
    adds_couple _ c.args.attacker.now c.args.victim.now c.start-attacker.result.now c.start-victim.result.now c.in_ok-pair.pair _ _ c.start-attacker.ensures c.start-victim.ensures other c.in_ok-pair.ensures
    c.in_ok-push.ensures.items
