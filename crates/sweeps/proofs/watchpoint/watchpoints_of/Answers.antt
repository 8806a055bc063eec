use Rattle.std.proofs.Common.{◌∙◌}
use Rattle.sweeps.proofs.Listing.{are_watchpoints, are_within, stations_same}
use Rattle.sweeps.proofs.watchpoint.watchpoints_of.Goals as goal

pub returns-clause-stations : goal.returns-clause-stations
returns-clause-stations c =
    stations_same c.args.topology.now c.args.stations.now c.deref.result.now (c.deref.ensures.value ∙ c.in_ok-sites.ensures) c.in_ok-watchpoints.watchpoints.items c.in_ok-watchpoints.ensures.stations c.in_ok-watchpoints.ensures.each

pub returns-clause-wake : goal.returns-clause-wake
returns-clause-wake c =
    are_watchpoints c.args.topology.now c.args.stations.now c.deref.result.now (c.deref.ensures.value ∙ c.in_ok-sites.ensures) c.in_ok-watchpoints.watchpoints.items c.in_ok-watchpoints.ensures.stations c.in_ok-watchpoints.ensures.each

pub returns-clause-within : goal.returns-clause-within
returns-clause-within c =
    are_within c.args.topology.now c.args.stations.now c.deref.result.now (c.deref.ensures.value ∙ c.in_ok-sites.ensures) c.in_ok-watchpoints.watchpoints.items c.in_ok-watchpoints.ensures.stations c.in_ok-watchpoints.ensures.each
