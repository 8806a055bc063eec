use Rattle.std.proofs.Common.{sym, ◌∙◌}
use Rattle.platform.proofs.OwnerLemmas.{host_owner, no_host_owner}
use Rattle.platform.proofs.owners.owner_of_parts.Goals as goal

pub returns-in-Some : goal.returns-in-Some
returns-in-Some c = sym (host_owner c.args.ports.now c.args.bus c.args.device c.args.function c.in-Some.owner c.if-bus-ne0.false c.if-function-ne0.false (sym c.in-Some.ensures))

pub returns-in-None : goal.returns-in-None
returns-in-None c = c.owner_of_bus-in-None.ensures ∙ sym (no_host_owner c.args.ports.now c.args.bus c.args.device c.args.function c.if-bus-ne0.false c.if-function-ne0.false (sym c.in-None.ensures))
