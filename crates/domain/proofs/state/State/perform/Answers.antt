use Rattle.std.proofs.Common.{ap, sym, ◌∙◌}
use Rattle.request_handling.specs.Emissions.{Emission}
use Rattle.domain_state.specs.Ends.{done}
use Rattle.domain_state.specs.State.{Alone, item_at}
use Rattle.domain.specs.States.{alone_of}
use Rattle.domain.proofs.ConcludeLemmas.{one_item}
use Rattle.domain.proofs.state.State.perform.Goals as goal

pub returns-in-Some : goal.returns-in-Some
returns-in-Some c = λ e is.
    c.perform.ensures (alone_of c.self.inside)
    ∙ ap (λ (s : Alone). done s c.in-Some.bytes.now c.args.effect) c.self.view_is
    ∙ ap (λ (x : Emission). done c.args.self.now x.bytes c.args.effect) (one_item _ _ e (ap (λ (s : Alone). item_at s.flight c.args.number) (sym c.self.view_is) ∙ c.in-Some.ensures.value) is)
