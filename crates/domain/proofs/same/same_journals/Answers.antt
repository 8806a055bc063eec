use Rattle.std.proofs.Common.{refl, sym, ap, ◌∙◌, arith, get_or}
use Rattle.std.proofs.lemmas.List.{take_more_same, take_all}
use Rattle.domain.specs.declared.entry.Entry.{Entry}
use Rattle.domain.proofs.same.same_journals.Goals as goal

pub loop-index-preserved : goal.loop-index-preserved
loop-index-preserved c =
    let same = c.same_entry.ensures.0 c.if-not-same_entry.false in
    let x = c.index-one-index.result in
    record {
      same = take_more_same c.args.one.now c.args.other.now c.loop-index.index x c.loop-index-test.true (omega (arith, c.if-one-other.false, c.loop-index-test.true)) c.loop-index.invariant.same
          (sym c.index-one-index.is ∙ same ∙ c.index-other-index.is ∙ ap (λ (e : Entry). get_or c.args.other.now c.loop-index.index e) (sym same));
    }

pub returns : goal.returns
returns c =
    let one = take_all c.loop-index.index c.args.one.now c.loop-index-test.false in
    let other = take_all c.loop-index.index c.args.other.now (omega (arith, c.if-one-other.false, c.loop-index-test.false)) in
    (λ is. sym one ∙ c.loop-index.invariant.same ∙ other, λ same. refl)
