use Rattle.std.proofs.Common.{◌≡◌, ◌++◌, map, take}
use Rattle.sweeps.specs.Sweeps.{host_outbox}
use Rattle.sweeps.proofs.order.add_hosts.Given as goal

abbrev pub invariant-loop-domain : goal.invariant-loop-domain
invariant-loop-domain l = l.stations.items ≡ l.initial.stations.items ++ map host_outbox (take l.domain-index l.domains)
