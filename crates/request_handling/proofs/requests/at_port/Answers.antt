use Rattle.std.proofs.Common.{List, ℕ, ap, sym, ◌∙◌}
use Rattle.fab_types.specs.declared.head.Parties.{Parties}
use Rattle.request_handling.specs.Carries.{refusal_by}
use Rattle.request_handling.specs.Fates.{fate_at}
use Rattle.request_handling.specs.Requests.{at_port}
use Rattle.request_handling.proofs.Choices.{none_discarded}
use Rattle.request_handling.proofs.requests.at_port.Goals as goal

pub returns-in-None-clause-value : goal.returns-in-None-clause-value
returns-in-None-clause-value c = λ share frames registers.
    let port = c.args.port.now in
    let f = c.in-Upward.function in
    none_discarded (refusal_by port.id f c.args.bytes.now (fate_at c.args.start.now.ports f port c.args.bytes.now))
    (c.in-None.ensures.value share frames registers ∙ ap (λ (b : List ℕ). refusal_by port.id f b (fate_at c.args.start.now.ports f port b)) c.new.ensures)
    ∙ ap (λ (sender : Parties). at_port c.args.start.now.ports port c.args.bytes.now sender) (sym c.in-Upward.is)
