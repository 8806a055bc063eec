use Rattle.std.proofs.Common.{ap, ◌∙◌}
use Rattle.domain_state.specs.Ends.{done}
use Rattle.domain_state.specs.State.{Alone}
use Rattle.domain.specs.States.{alone_of}
use Rattle.domain.proofs.ConcludeLemmas.{done_replied}
use Rattle.domain.proofs.state.State.end_bytes.Goals as goal

pub returns-clause-state : goal.returns-clause-state
returns-clause-state c =
    c.perform.ensures (alone_of c.self.inside)
    ∙ ap (λ (s : Alone). done s c.args.bytes.now c.args.handling.effect) (c.self.view_is ∙ c.in_ok-sent.ensures.state)
    ∙ done_replied c.args.self.now c.args.handling.reply c.args.bytes.now c.args.handling.effect
