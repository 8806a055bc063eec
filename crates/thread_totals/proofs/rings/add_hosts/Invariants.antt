use Rattle.std.proofs.Common.{◌≡◌, ◌++◌, take}
use Rattle.std.specs.List.{flat_map}
use Rattle.thread_totals.specs.Begins.{AddUp, host_ring}
use Rattle.thread_totals.proofs.rings.add_hosts.Given as goal

abbrev pub invariant-loop-host : goal.invariant-loop-host
invariant-loop-host l = (l.rings.items ≡ l.initial.rings.items ++ flat_map (host_ring l.domain) (take l.host-index l.hosts)) × (AddUp l.initial.rings.items → AddUp l.rings.items)
