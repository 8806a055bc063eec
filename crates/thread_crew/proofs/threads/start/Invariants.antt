use Rattle.std.proofs.Common.{◌≡◌, ◌+◌, ◌≤◌, ◌++◌, length}
use Rattle.std.specs.Prelude.{vec_len, vec_capacity}
use Rattle.std.specs.Vec.Iter.{into_iter_items}
use Rattle.thread_crew.specs.Crews.{started}
use Rattle.thread_crew.proofs.threads.start.Given as goal

abbrev pub invariant-loop-worker : goal.invariant-loop-worker
invariant-loop-worker g l =
    (started l.handles.items ++ into_iter_items l.worker-iterator ≡ l.fn.workers.items)
    × (vec_len l.handles + length (into_iter_items l.worker-iterator) ≤ vec_capacity l.handles)
