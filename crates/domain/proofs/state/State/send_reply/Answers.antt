use Rattle.std.proofs.Common.{ℕ, Option, ap, ◌∙◌, length, refl}
use Rattle.std.specs.Prelude.{option_map}
use Rattle.request_handling.specs.Emissions.{Emission}
use Rattle.request_handling.specs.Heads.{descriptor_of}
use Rattle.domain_state.specs.Ends.{replied}
use Rattle.domain.specs.States.{alone_of}
use Rattle.domain.proofs.ConcludeLemmas.{answer_is, if_both}
use Rattle.domain.proofs.state.State.send_reply.Goals as goal

pub returns-clause-answered : goal.returns-clause-answered
returns-clause-answered c =
    if_both c.send.result _ _ _ (λ x state sent. λ e there.
    let answer = answer_is c.args.start.now (alone_of c.self.inside) c.args.self.now c.args.number _ e c.args.disposition _ _ c.reply-reply.result c.self.view_is c.in-Some.ensures.value there refl refl c.reply-reply.ensures in
    record {
      state = state ∙ ap (replied c.args.self.now) answer;
      frame =
          sent ∙ ap (λ (d : ℕ). option_map (descriptor_of d (length c.args.self.now.flight)) c.reply-reply.result) c.domain.ensures
          ∙ ap (λ (o : Option Emission). option_map (descriptor_of c.args.start.now.domain (length c.args.self.now.flight)) o) answer;
    })
    c.send.ensures.state
    c.send.ensures.sent
