use Rattle.domains.specs.Indexes.{IsIndexOf}
use Rattle.domains.proofs.indexing.note_hosts.Given as goal

abbrev pub invariant-loop-domain : goal.invariant-loop-domain
invariant-loop-domain l = IsIndexOf l.index l.domains
