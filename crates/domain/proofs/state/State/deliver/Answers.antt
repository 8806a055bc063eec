use Rattle.std.proofs.Common.{◌≡◌, ap, sym, ◌∙◌, rules}
use Rattle.domain_state.specs.State.{Alone, item_at, without}
use Rattle.domain.specs.Deliveries.{arrival_by, arrival_of, arrived}
use Rattle.domain.specs.States.{alone_of}
use Rattle.domain.proofs.ConcludeLemmas.{with_flight}
use Rattle.domain.proofs.EndLemmas.{has_arrived, without_arrived}
use Rattle.domain.proofs.state.State.deliver.Goals.{then-arriving, else-arriving}
use Rattle.domain.proofs.state.State.deliver.Goals as goal

pub returns : goal.returns
returns c =
    let s = c.args.self.now in
    let n = c.args.number in
    let a = c.in-Some-arriving_of.arriving in
    let b = c.in-Some.bytes.now in
    let left : c.if-arriving.self ≡ arrived s (arrival_by a b) = elim c.if-arriving.branch [ then-arriving w ↦ search rules | else-arriving w ↦ search rules ] in
    has_arrived s _ n _ a (ap (λ (t : Alone). item_at t.flight n) (sym c.self.view_is) ∙ c.in-Some.ensures.value)
    (c.in-Some-arriving_of.ensures.value ∙ ap (λ (t : Alone). arrival_of t.open_tags b c.in-Some.parties) c.self.view_is)
    (ap (with_flight (alone_of c.self-2.inside)) c.end.ensures ∙ ap (λ (t : Alone). without t n) (c.self-2.view_is ∙ left) ∙ without_arrived s (arrival_by a b) n)
