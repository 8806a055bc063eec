use Rattle.std.proofs.Common.{◌≡◌}
use Rattle.thread_rings.specs.Wired.{tags_of}
use Rattle.thread_workers.proofs.host.host_work.HostWork.turn.Given as goal

abbrev pub invariant-loop : goal.invariant-loop
invariant-loop g l =
    (l.self.kept ≡ l.fn.self.kept)
    × (tags_of l.links ≡ tags_of l.fn.links)
    × (tags_of l.credits ≡ tags_of l.fn.credits)
