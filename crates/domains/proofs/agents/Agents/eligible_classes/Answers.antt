use Rattle.std.proofs.Common.{List, ap, sym, ◌∙◌}
use Rattle.std.specs.Prelude.{is_some}
use Rattle.frame_log.specs.Descriptor.{Descriptor}
use Rattle.lane.specs.Lanes.{eligible}
use Rattle.domains.proofs.Viewing.{waits}
use Rattle.domains.proofs.agents.Agents.eligible_classes.Goals as goal

pub returns : goal.returns
returns c = λ class. rw (← c.self.view_is) (c.eligible_classes.ensures class ∙ ap (λ (ws : List Descriptor). is_some (eligible class ws)) (sym (waits c.self.inside.outboxes c.args.origin)))
