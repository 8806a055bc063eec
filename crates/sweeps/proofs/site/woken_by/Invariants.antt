use Rattle.sweeps.proofs.Listing.{ListsSoFar}
use Rattle.sweeps.proofs.site.woken_by.Given as goal

-- of the sites so far those that are woken are listed
abbrev pub invariant-loop-other : goal.invariant-loop-other
invariant-loop-other l = ListsSoFar l.how l.site l.sites l.other l.places.items
