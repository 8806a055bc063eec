use Rattle.std.proofs.Common.{◌≡◌, false, map}
use Rattle.thread_workers.specs.Hosts.{unserved}
use Rattle.thread_workers.proofs.host.serve_all.serve_all.Given as goal

abbrev pub invariant-loop-place : goal.invariant-loop-place
invariant-loop-place g l =
    (map (λ host. host.outbox.origin) l.hosts ≡ map (λ host. host.outbox.origin) l.fn.hosts)
    × (l.has_moved ≡ false → map unserved l.hosts ≡ map unserved l.fn.hosts)
