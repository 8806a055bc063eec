use Rattle.std.proofs.Common.{sym, ◌∙◌}
use Rattle.domains.specs.Agents.{waiting_of}
use Rattle.link.proofs.Quiet.{none_waits}
use Rattle.fabric_core.proofs.quiet.is_outbox_empty.Goals as goal

pub returns : goal.returns
returns c = c.is_outbox_empty.ensures ∙ sym (none_waits (waiting_of c.args.agents.now.outboxes c.args.origin.now))
