use Rattle.std.proofs.Common.{◌∙◌}
use Rattle.audit.proofs.Lists.{found_of}
use Rattle.audit.proofs.search.found.Goals as goal

pub returns : goal.returns
returns c =
    found_of c.args.setting.now.layout.now c.args.attacker.now c.args.victim.now c.trier.result.now c.target-target.result.now c.args.way c.domain-one.result c.domain-other.result c.deref.result.now c.in_ok-found.found
    c.domain-one.ensures c.domain-other.ensures (c.deref.ensures.value ∙ c.in_ok-own.ensures) c.trier.ensures c.target-target.ensures c.in_ok-found.ensures
