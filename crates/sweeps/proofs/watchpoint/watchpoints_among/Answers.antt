use Rattle.std.proofs.Common.{List, subst, sym}
use Rattle.sweeps.specs.declared.watchpoint.Watchpoint.{Watchpoint}
use Rattle.sweeps.proofs.Listing.{WatchpointsSoFar, watchpoints_next, watchpoints_start, watchpoints_whole}
use Rattle.sweeps.proofs.watchpoint.watchpoints_among.Goals as goal

pub loop-site-init : goal.loop-site-init
loop-site-init c = subst (λ (watchpoints : List Watchpoint). WatchpointsSoFar c.args.sites.now 0 watchpoints) (sym c.new-watchpoints.ensures.items) (watchpoints_start c.args.sites.now)

pub loop-site-preserved : goal.loop-site-preserved
loop-site-preserved c =
    watchpoints_next c.args.sites.now c.loop-site.site-index c.loop-site.watchpoints.items _ c.site-item.result _ c.loop-site-test.true c.site-item.is c.in_ok-watchpoint_of.ensures c.in_ok-push.ensures.items c.loop-site.invariant

pub returns-clause-stations : goal.returns-clause-stations
returns-clause-stations c = watchpoints_whole c.args.sites.now c.loop-site.site-index c.loop-site.watchpoints.items c.loop-site-test.false c.loop-site.invariant

pub returns-clause-each : goal.returns-clause-each
returns-clause-each c = c.loop-site.invariant.each
