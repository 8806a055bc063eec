use Rattle.std.proofs.Common.{◌≡◌, ℕ, ◌-◌, ◌∙◌, ap, length, arith}
use Rattle.std.specs.Prelude.{count_by}
use Rattle.domain_state.specs.declared.counts.Counts.{Counts}
use Rattle.platform.specs.Share.{Share}
use Rattle.thread_totals.specs.Counts.{consumed_by, found_of}
use Rattle.thread_totals.specs.Named.{is_made_by}
use Rattle.thread_totals.proofs.Consumed.{consumed_or_waiting}
use Rattle.thread_totals.proofs.totals.totals_of.Goals as goal

pub returns : goal.returns
returns c = λ frames noted.
    let d = c.args.domain.now in
    let emitted : c.made-emitted.result ≡ length d.state.flight = c.made-emitted.ensures in
    let all = consumed_or_waiting d.journal d.state (c.emissions_are_consumed_once.ensures d.share d.journal d.state c.journal.ensures.replays) in
    let waiting = c.in_ok-waiting.ensures in
    let consumed : c.made-emitted.result - c.in_ok-waiting.waiting ≡ consumed_by d = omega (arith, emitted, all, waiting) in
    let own = noted (is_made_by d.share.domain) in
    let number : c.domain.result ≡ d.share.domain = c.domain.ensures ∙ ap (λ (s : Share). s.domain) c.start.ensures in
    let named : c.found_of.result ≡ count_by (is_made_by d.share.domain) c.args.names.now = c.found_of.ensures ∙ ap (λ (n : ℕ). count_by (is_made_by n) c.args.names.now) number in
    let found : c.found_of.result ≡ found_of d frames = omega (arith, named, own) in
    let begins = c.from.ensures ∙ ap (λ (counts : Counts). counts.begins) c.counts.ensures in
    λ i. record {
      emitted = emitted i;
      consumed = consumed i;
      found = found i;
      taken = c.taken_in.ensures i;
      begins = begins i;
      refused = c.refused_in.ensures i;
      held = c.held_in.ensures i;
    }
