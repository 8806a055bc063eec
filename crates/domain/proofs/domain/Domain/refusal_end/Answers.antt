use Rattle.std.proofs.Common.{ap, sym, ◌∙◌}
use Rattle.request_handling.specs.Carries.{refusal_of}
use Rattle.tlp_view.specs.Bytes.{packet_of}
use Rattle.domain.specs.Kept.{domain_view}
use Rattle.domain.proofs.EndLemmas.{refused_here}
use Rattle.domain.proofs.domain.Domain.refusal_end.Goals as goal

pub returns-in-Upward : goal.returns-in-Upward
returns-in-Upward c =
    let d = c.self.inside in
    let b = c.in-Some.packet in
    refused_here (domain_view d) c.args.self.now c.args.number _ c.refusal_of.result c.self.view_is c.in-Some.ensures.value
    (c.refusal_of.ensures.value d.state.frames d.state.registers ∙ ap (refusal_of d.start b) (sym c.in-Upward.is)) c.refusal_of.ensures.suits

pub returns-in-Answer : goal.returns-in-Answer
returns-in-Answer c =
    let d = c.self.inside in
    let b = c.in-Some.packet in
    refused_here (domain_view d) c.args.self.now c.args.number _ c.refusal_of_completion.result c.self.view_is c.in-Some.ensures.value
    (c.refusal_of_completion.ensures.value d.state.frames d.state.registers (packet_of b) ∙ ap (refusal_of d.start b) (sym c.in-Answer.is)) c.refusal_of_completion.ensures.suits
