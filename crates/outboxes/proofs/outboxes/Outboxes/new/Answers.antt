use Rattle.std.proofs.Common.{List, subst}
use Rattle.outboxes.specs.BoxIndexes.{IsIndexOf}
use Rattle.outboxes.specs.Outboxes.{BoxView}
use Rattle.outboxes.proofs.FullBoxes.{found_start}
use Rattle.outboxes.proofs.outboxes.Outboxes.new.Goals as goal

pub invariant_of-result : goal.invariant_of-result
invariant_of-result c = record {
  indexed = subst (λ (boxes : List BoxView). IsIndexOf c.index_of.result boxes) c.deref.ensures.value c.index_of.ensures;
  found = found_start c.args.layout.now c.in_ok-boxes.boxes.items c.in_ok-boxes.ensures;
}
