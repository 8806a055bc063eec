use Rattle.std.proofs.Common.{◌≡◌, Option, ap, ◌∙◌, subst, sym, List, ℕ}
use Rattle.fab_types.specs.declared.status.Status.{Status}
use Rattle.tlp_view.specs.Bytes.{packet_of}
use Rattle.tlp_view.specs.Packet.{Packet}
use Rattle.request_handling.specs.AtFunctions.{request_at_function}
use Rattle.request_handling.specs.Dispositions.{handling}
use Rattle.domain.specs.Aliens.{at_function, at_function_with}
use Rattle.domain.specs.Domains.{DomainView}
use Rattle.domain.proofs.AlienLemmas.{ends}
use Rattle.domain.proofs.domain.Domain.at_function.Goals as goal

pub returns-in-None : goal.returns-in-None
returns-in-None c =
    let d = c.self.inside in
    let t = c.args.view.now in
    let g = c.args.function in
    let b = c.args.bytes.now in
    let p = c.request_at_function-disposition.result in
    subst (λ (u : DomainView). ends c.handling.result ≡ at_function u.share u.state g c.args.sender t) c.self.view_is
    (ap ends (c.handling.ensures
    ∙ ap (λ (u : DomainView). handling u.share u.state.frames u.state.registers (packet_of b) p) (sym c.self.view_is)
    ∙ ap (λ (x : Packet). handling d.start d.state.frames d.state.registers x p) (sym c.requires.read)
    ∙ ap (λ (pages : List (ℕ × List ℕ)). handling d.start d.state.frames pages t p) (sym c.functions-functions.ensures)
    ∙ c.request_at_function-disposition.ensures.value d.state.frames
    ∙ ap (λ (pages : List (ℕ × List ℕ)). request_at_function d.start pages g t) c.functions-functions.ensures)
    ∙ ap (λ (o : Option Status). at_function_with o d.start d.state g c.args.sender t) c.in-None.ensures.value)
