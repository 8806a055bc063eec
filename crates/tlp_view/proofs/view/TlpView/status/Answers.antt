use Rattle.std.proofs.Common.{sym, ap, ◌∙◌, subst}
use Rattle.std.specs.Prelude.{IsSome}
use Rattle.tlp_view.specs.Packet.{Packet, status_in}
use Rattle.tlp_view.proofs.Statuses.{status_known, status_of_completion}
use Rattle.tlp_view.proofs.view.TlpView.status.Goals as goal

pub returns-then-is_completion-clause-value : goal.returns-then-is_completion-clause-value
returns-then-is_completion-clause-value c =
    let completion = sym c.is_completion.ensures ∙ c.if-is_completion.true in
    c.status.ensures ∙ status_of_completion c.self.inside.kind c.self.inside.bytes.now c.self.invariant completion ∙ ap (λ (t : Packet). status_in t.body) c.self.view_is

pub returns-then-is_completion-clause-known : goal.returns-then-is_completion-clause-known
returns-then-is_completion-clause-known c = λ _.
    let completion = sym c.is_completion.ensures ∙ c.if-is_completion.true in
    subst IsSome (sym c.status.ensures) (status_known c.self.inside.kind c.self.inside.bytes.now c.self.invariant completion)
