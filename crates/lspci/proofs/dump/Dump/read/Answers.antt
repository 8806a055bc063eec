use Rattle.std.proofs.Common.{◌∙◌, inl, inr, refl, arith}
use Rattle.text.specs.Text.{pieces}
use Rattle.lspci.specs.Reading.{reading}
use Rattle.lspci.proofs.Pieces.{read-line, read-fault, end-fault, end-is, reached}
use Rattle.lspci.proofs.dump.Dump.read.Goals as goal

pub loop-parts-init : goal.loop-parts-init
loop-parts-init c = record {
  left = rw (c.as_bytes-rest.ensures.value, c.empty-dump.ensures) refl;
  small = omega arith;
}

pub returns-in-Err : goal.returns-in-Err
unfolding reading
returns-in-Err c = record {
  exact = elim c.in-Err.ensures [
    | inl h ↦ inl (h, rw c.loop-parts.invariant.left (reached c.loop-parts.dump c.loop-parts.line (pieces c.loop-parts.rest.now) c.loop-parts.invariant.small))
    | inr h ↦ inr (c.loop-parts.invariant.left ∙ read-fault c.loop-parts.dump c.loop-parts.line c.in-Err.cause c.in-Some.parts.before.now c.in-Some.parts.after.now c.loop-parts.rest.now c.in-Some.ensures.parts h)
  ];
}

pub loop-parts-preserved : goal.loop-parts-preserved
loop-parts-preserved c = record {
  left =
      rw (c.saturating_add-line.ensures)
      (c.loop-parts.invariant.left ∙ read-line c.loop-parts.dump c.take_line.new.self c.loop-parts.line c.in-Some.parts.before.now c.in-Some.parts.after.now c.loop-parts.rest.now c.in-Some.ensures.parts c.in_default-take_line.ensures);
  small = omega (arith, c.saturating_add-line.ensures);
}

pub returns-in-Err-end : goal.returns-in-Err-end
unfolding reading
returns-in-Err-end c = record {
  exact =
      rw c.loop-parts.invariant.left
      (end-fault c.loop-parts.dump c.loop-parts.line c.in-Err-end.cause c.loop-parts.rest.now c.loop-parts.invariant.small c.in_default.ensures.parts c.in-Err-end.ensures);
}

pub returns : goal.returns
unfolding reading
returns c = record {
  exact =
      c.loop-parts.invariant.left
      ∙ end-is c.loop-parts.dump c.end.new.self c.loop-parts.line c.loop-parts.rest.now c.in_default.ensures.parts c.in_default-end.ensures;
}
