use Rattle.std.proofs.Common.{◌≡◌, List, ℕ, ap, subst, ◌∙◌}
use Rattle.request_handling.specs.Dispositions.{handling}
use Rattle.tlp_view.specs.Bytes.{packet_of}
use Rattle.domain.specs.Domains.{DomainView}
use Rattle.domain.proofs.domain.Domain.handling.Goals as goal

pub returns : goal.returns
returns c =
    let d = c.self.inside in
    let t = packet_of c.args.bytes.now in
    subst (λ (u : DomainView). c.handling.result ≡ handling u.share u.state.frames u.state.registers t c.args.disposition) c.self.view_is
    (c.handling.ensures
    ∙ ap (λ (frames : List (ℕ × List ℕ)). handling d.start frames c.functions-functions.result.now t c.args.disposition) c.memory-memory.ensures
    ∙ ap (λ (pages : List (ℕ × List ℕ)). handling d.start d.state.frames pages t c.args.disposition) c.functions-functions.ensures)
