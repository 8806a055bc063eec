use Rattle.std.proofs.Common.{◌∙◌, refl, sym, arith}
use Rattle.journal_text.proofs.Flying.{lent_is_some, with_number, without_number}
use Rattle.journal_text.proofs.journals.in_flight.Goals.{then-is_some+in_ok-push, else-is_some}
use Rattle.journal_text.proofs.journals.in_flight.Goals as goal

pub loop-number-preserved : goal.loop-number-preserved
loop-number-preserved c =
    let same = sym (lent_is_some c.bytes.result _ c.bytes.ensures.value) ∙ sym c.is_some.ensures in
    let flight = c.args.domain.now.state.flight in
    elim c.if-is_some.branch [
      | then-is_some+in_ok-push w ↦
          with_number c.loop-number.number flight c.loop-number.numbers.items (omega (arith, c.loop-number-test.true, c.made-number-end.ensures)) (same ∙ w.if-is_some.true) c.loop-number.invariant
          ∙ rw w.numbers-is (sym w.in_ok-push.ensures.items)
      | else-is_some w ↦
          without_number c.loop-number.number flight c.loop-number.numbers.items (omega (arith, c.loop-number-test.true, c.made-number-end.ensures)) (same ∙ w.if-is_some.false) c.loop-number.invariant
          ∙ rw w.numbers-is refl
    ]
