use Rattle.outboxes.specs.BoxIndexes.{IsIndexOf}
use Rattle.outboxes.proofs.indexing.index_of.Given as goal

abbrev pub invariant-loop-outbox : goal.invariant-loop-outbox
invariant-loop-outbox l = IsIndexOf l.index l.boxes
