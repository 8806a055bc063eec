use Rattle.std.proofs.Common.{ap, sym, ◌∙◌, List}
use Rattle.std.specs.Prelude.{option_map}
use Rattle.frame_log.specs.Descriptor.{Descriptor}
use Rattle.lane.specs.Lanes.{eligible}
use Rattle.domains.proofs.Viewing.{waits}
use Rattle.domains.proofs.agents.Agents.home.Goals as goal

pub returns : goal.returns
returns c = rw (← c.self.view_is)
    (c.home.ensures ∙ ap (λ (ws : List Descriptor). option_map (λ taken. taken.0.domain) (eligible c.args.class ws)) (sym (waits c.self.inside.outboxes c.args.origin)))
