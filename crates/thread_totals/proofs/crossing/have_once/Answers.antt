use Rattle.std.proofs.Common.{◌∙◌, ap, refl, arith}
use Rattle.std.specs.List.{list_any}
use Rattle.std.proofs.lemmas.Bool.{false≢true}
use Rattle.thread_totals.proofs.Consumed.{consumed_or_waiting}
use Rattle.thread_totals.proofs.Crossed.{decided, decided_all, decided_twice}
use Rattle.thread_totals.proofs.crossing.have_once.Goals as goal

pub returns-then-not-cross_off-clause-exact : goal.returns-then-not-cross_off-clause-exact
returns-then-not-cross_off-clause-exact c =
    let d = c.args.domain.now in
    let more = rw (c.domain.ensures, c.start.ensures) at c.if-not-cross_off.ensures.more refl in
    (λ wrong. absurd (false≢true wrong), λ once. absurd (decided_twice d.share.domain c.args.names.now d.state.flight _ c.in_ok-flying.ensures more once))

pub returns-clause-exact : goal.returns-clause-exact
returns-clause-exact c =
    let d = c.args.domain.now in
    let all = rw (c.domain.ensures, c.start.ensures) at c.if-not-cross_off.ensures.all refl in
    decided d.share.domain c.args.names.now d.state.flight _ c.in_ok-flying.ensures _ all c.has_left.result (c.has_left.ensures ∙ ap (list_any (λ b. b)) c.deref.ensures.value)

pub returns-clause-all : goal.returns-clause-all
returns-clause-all c = λ have.
    let d = c.args.domain.now in
    let all = rw (c.domain.ensures, c.start.ensures) at c.if-not-cross_off.ensures.all refl in
    let found = decided_all d.share.domain c.args.names.now d.state.flight _ c.in_ok-flying.ensures _ all c.has_left.result (c.has_left.ensures ∙ ap (list_any (λ b. b)) c.deref.ensures.value) have in
    let made = consumed_or_waiting d.journal d.state (c.emissions_are_consumed_once.ensures d.share d.journal d.state c.journal.ensures.replays) in
    omega (arith, found, made)
