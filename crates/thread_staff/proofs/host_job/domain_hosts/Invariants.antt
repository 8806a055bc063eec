use Rattle.std.proofs.Common.{◌≡◌, ◌++◌, map}
use Rattle.std.specs.Vec.Iter.{into_iter_items}
use Rattle.thread_staff.specs.Origins.{origins_in}
use Rattle.thread_staff.proofs.host_job.domain_hosts.Given as goal

-- the hosts so far have theirs, and the others are left
abbrev pub invariant-loop-outbox : goal.invariant-loop-outbox
invariant-loop-outbox l =
    origins_in l.injectors.items ++ map (λ outbox. outbox.origin) (into_iter_items l.outbox-iterator)
    ≡ origins_in l.initial.injectors.items ++ map (λ outbox. outbox.origin) l.fn.hosts.items
