use Rattle.std.proofs.Common.{◌∙◌, List, ℕ, ap, refl, subst}
use Rattle.text_writers.specs.DraftViews.{Written}
use Rattle.import.specs.Told.{IsToldOf}
use Rattle.import.proofs.PartByPart.{tell_end, tell_next, tell_start}
use Rattle.import.proofs.telling.tell_left_out.Goals as goal

pub loop-part-init : goal.loop-part-init
loop-part-init c = (refl, refl, tell_start c.args.names.now c.args.left_out.now c.args.draft.now)

pub loop-part-preserved : goal.loop-part-preserved
loop-part-preserved c =
    let told = c.in_ok-tell_part.ensures.told in (
      ap (λ (w : Written). w.platform) told.3 ∙ c.loop-part.invariant.0,
      c.tell_part.ensures.names ∙ c.loop-part.invariant.1,
      tell_next c.args.names.now c.args.left_out.now c.args.draft.now c.loop-part.draft c.tell_part.new.draft c.loop-part.part-index c.part-item.result c.loop-part-test.true c.part-item.is
          c.loop-part.invariant.2 (subst (λ (dump : List ℕ). IsToldOf dump c.part-item.result c.loop-part.draft c.tell_part.new.draft) c.loop-part.invariant.1 told),
    )

pub returns-clause-told : goal.returns-clause-told
returns-clause-told c = tell_end c.args.names.now c.args.left_out.now c.args.draft.now c.loop-part.draft c.loop-part.part-index c.loop-part-test.false c.loop-part.invariant.2
