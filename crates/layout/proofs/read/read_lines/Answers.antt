use Rattle.std.proofs.Common.{refl, sym, ◌∙◌, inl, inr, arith}
use Rattle.platform.specs.Platform.{no_lines}
use Rattle.text.specs.Text.{pieces}
use Rattle.layout.proofs.Pieces.{read-line, read-fault, read-end, reading-is}
use Rattle.layout.proofs.Reached.{reached}
use Rattle.layout.proofs.read.read_lines.Goals as goal

pub returns-in-Err-clause-exact : goal.returns-in-Err-clause-exact
returns-in-Err-clause-exact c = elim c.in-Err.ensures [
  | inl h ↦ inl (h, rw c.loop-parts.invariant.left (reached c.loop-parts.layout c.loop-parts.line (pieces c.loop-parts.rest.now) c.loop-parts.invariant.small))
  | inr h ↦ inr (c.loop-parts.invariant.left ∙ read-fault c.loop-parts.layout c.loop-parts.line c.in-Err.cause c.in-Some.parts.before.now c.in-Some.parts.after.now c.loop-parts.rest.now c.in-Some.ensures.parts h)
]

pub loop-parts-preserved : goal.loop-parts-preserved
loop-parts-preserved c = record {
  left =
      rw c.saturating_add-line.ensures (
      c.loop-parts.invariant.left ∙ read-line c.loop-parts.layout c.take_line.new.self c.loop-parts.line c.in-Some.parts.before.now c.in-Some.parts.after.now c.loop-parts.rest.now c.in-Some.ensures.parts c.in_default-take_line.ensures);
  small = omega (arith, c.saturating_add-line.ensures);
}

pub returns-in_default-clause-exact : goal.returns-in_default-clause-exact
returns-in_default-clause-exact c = inl (refl, reached (no_lines c.args.version) 2 (pieces c.args.text.now) (omega arith))

pub returns-clause-exact : goal.returns-clause-exact
returns-clause-exact c = reading-is _ c.ended.result (c.loop-parts.invariant.left ∙ read-end c.loop-parts.layout c.loop-parts.line c.loop-parts.rest.now c.in_default-cut.ensures.parts ∙ sym c.ended.ensures.value)
