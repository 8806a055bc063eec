use Rattle.sweeps.proofs.Listing.{WatchpointsSoFar}
use Rattle.sweeps.proofs.watchpoint.watchpoints_among.Given as goal

-- the watchpoints of the sites so far
abbrev pub invariant-loop-site : goal.invariant-loop-site
invariant-loop-site l = WatchpointsSoFar l.sites l.site-index l.watchpoints.items
