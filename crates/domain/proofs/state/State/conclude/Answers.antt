use Rattle.std.proofs.Common.{◌+◌, ◌<◌, ◌^◌, ap, subst, sym, ◌∙◌}
use Rattle.request_handling.specs.declared.handling.Effect.{Effect}
use Rattle.domain_state.specs.declared.counts.Counts.{Counts}
use Rattle.domain_state.specs.Ends.{EffectFits, done, replied}
use Rattle.domain_state.specs.State.{Alone, without}
use Rattle.domain.specs.Domains.{disposed}
use Rattle.domain.specs.States.{alone_of}
use Rattle.domain.proofs.ConcludeLemmas.{concludes, fits_after, unblocked, with_flight}
use Rattle.domain.proofs.state.State.conclude.Goals as goal

pub perform-requires-clause-blocks : goal.perform-requires-clause-blocks
perform-requires-clause-blocks c =
    subst (λ (k : Counts). k.blocked + 1 < 2 ^ 64) (sym (unblocked c.args.self.now c.answer.new.self (λ x. (disposed c.args.start.now c.args.self.now x c.args.disposition).reply) c.args.number c.requires.waits (λ x there. (c.in_ok-sent.ensures.answered x there).state))) c.requires.blocks

pub perform-requires-clause-fits : goal.perform-requires-clause-fits
perform-requires-clause-fits c = λ e is.
    fits_after c.args.self.now c.answer.new.self (λ x. (disposed c.args.start.now c.args.self.now x c.args.disposition).reply) c.args.number c.effect.result e c.requires.waits (λ x there. (c.in_ok-sent.ensures.answered x there).state)
    (λ x there. subst (EffectFits x) (sym c.effect.ensures) (c.requires.fits x there)) is

pub returns-clause-state : goal.returns-clause-state
returns-clause-state c = λ e is.
    let s = c.args.self.now in
    let reply = (disposed c.args.start.now s e c.args.disposition).reply in
    ap (with_flight (alone_of c.self.inside)) c.end.ensures
    ∙ ap (λ (s : Alone). without s c.args.number) c.self.view_is
    ∙ concludes s c.answer.new.self c.perform.new.self reply c.args.number e c.effect.result c.requires.waits is (c.in_ok-sent.ensures.answered e is).state c.perform.ensures
    ∙ ap (λ (d : Effect). replied (done (without s c.args.number) e.bytes d) reply) c.effect.ensures
