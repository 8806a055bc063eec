use Rattle.std.proofs.Common.{◌==◌, ap, length, sym, ◌∙◌, List}
use Rattle.frame_log.specs.Descriptor.{Descriptor}
use Rattle.domains.proofs.Viewing.{waits}
use Rattle.domains.proofs.agents.Agents.is_outbox_empty.Goals as goal

pub returns : goal.returns
returns c = rw (← c.self.view_is) (c.is_empty.ensures ∙ ap (λ (ws : List Descriptor). length ws == 0) (sym (waits c.self.inside.outboxes c.args.origin)))
