use Rattle.std.proofs.Common.{◌≡◌, None, refl, subst}
use Rattle.std.proofs.lemmas.Option.{slice_get_read}
use Rattle.platform.specs.Share.{Share}
use Rattle.domain.specs.Machine.{change}
use Rattle.journal_text.proofs.LineEntries.{first_entries, lines_stop}
use Rattle.journal_text.proofs.replaying.replay.Goals as goal

pub returns-in-Err-Illegal-clause-illegal : goal.returns-in-Err-Illegal-clause-illegal
returns-in-Err-Illegal-clause-illegal c = λ number same. record {
  index = c.loop-line.line-index;
  line = c.line-item.result;
  there = slice_get_read c.args.lines.now _ c.loop-line.line-index c.line-item.result refl c.loop-line-test.true c.line-item.is;
  number_is = cc;
  before = c.loop-line.domain.state;
  legal = first_entries c.args.start.now c.args.lines.now c.loop-line.line-index c.loop-line.domain.state c.loop-line.invariant.state;
  illegal = subst (λ (share : Share). change share c.loop-line.domain.state c.line-item.result.entry ≡ None) c.loop-line.invariant.share (c.in-Err-Illegal.ensures.illegal c.in-Err-Illegal.field-0-is);
}

pub returns-in-Err-Illegal-clause-legal : goal.returns-in-Err-Illegal-clause-legal
returns-in-Err-Illegal-clause-legal c = λ s all.
    let there = slice_get_read c.args.lines.now _ c.loop-line.line-index c.line-item.result refl c.loop-line-test.true c.line-item.is in
    let illegal = subst (λ (share : Share). change share c.loop-line.domain.state c.line-item.result.entry ≡ None) c.loop-line.invariant.share (c.in-Err-Illegal.ensures.illegal c.in-Err-Illegal.field-0-is) in
    absurd (lines_stop c.args.start.now c.args.lines.now c.loop-line.line-index c.line-item.result c.loop-line.domain.state s c.loop-line.invariant.state there illegal all)
