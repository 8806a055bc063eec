use Rattle.std.proofs.Common.{◌≡◌, ◌+◌, ◌≤◌, length}
use Rattle.std.specs.Prelude.{vec_len, vec_capacity}
use Rattle.std.specs.Vec.Iter.{into_iter_items}
use Rattle.thread_domains.proofs.locks.Locks.into_domains.Given as goal

abbrev pub invariant-loop-lock : goal.invariant-loop-lock
invariant-loop-lock l =
    (vec_len l.domains + length (into_iter_items l.lock-iterator) ≡ length l.fn.self)
    × (vec_len l.domains + length (into_iter_items l.lock-iterator) ≤ vec_capacity l.domains)
