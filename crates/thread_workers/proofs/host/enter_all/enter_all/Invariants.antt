use Rattle.std.proofs.Common.{◌≡◌, false, map}
use Rattle.lane.specs.Queues.{frames_of}
use Rattle.thread_workers.proofs.host.enter_all.enter_all.Given as goal

abbrev pub invariant-loop-place : goal.invariant-loop-place
invariant-loop-place l =
    (map (λ host. host.outbox.origin) l.hosts ≡ map (λ host. host.outbox.origin) l.fn.hosts)
    × (l.egress.sender ≡ l.fn.egress.sender)
    × (l.has_moved ≡ false → (l.hosts ≡ l.fn.hosts) × (frames_of l.egress.queue.queue.waiting ≡ frames_of l.fn.egress.queue.queue.waiting))
