use Rattle.domains.specs.Indexes.{IsIndexOf}
use Rattle.domains.proofs.indexing.note_functions.Given as goal

abbrev pub invariant-loop-line : goal.invariant-loop-line
invariant-loop-line l = IsIndexOf l.index l.domains
