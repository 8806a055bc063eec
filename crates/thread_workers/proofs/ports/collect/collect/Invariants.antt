use Rattle.std.proofs.Common.{◌≡◌, false}
use Rattle.lane.specs.Queues.{frames_of}
use Rattle.thread_rings.specs.Moved.{put_by, taken_by}
use Rattle.thread_rings.specs.Wired.{tags_of}
use Rattle.thread_workers.proofs.ports.collect.collect.Given as goal

abbrev pub invariant-loop-end : goal.invariant-loop-end
invariant-loop-end l =
    (tags_of l.pairs ≡ tags_of l.fn.pairs)
    × (put_by l.pairs ≡ put_by l.fn.pairs)
    × (l.egress.sender ≡ l.fn.egress.sender)
    × (l.has_moved ≡ false → (taken_by l.pairs ≡ taken_by l.fn.pairs) × (frames_of l.egress.queue.queue.waiting ≡ frames_of l.fn.egress.queue.queue.waiting))
