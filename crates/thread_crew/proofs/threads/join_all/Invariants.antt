use Rattle.std.proofs.Common.{◌≡◌, ◌+◌, ◌≤◌, ◌++◌, map, length}
use Rattle.std.specs.Prelude.{vec_len, vec_capacity}
use Rattle.std.specs.Vec.Iter.{into_iter_items}
use Rattle.thread_crew.specs.Crews.{started}
use Rattle.thread_crew.proofs.threads.join_all.Given as goal

abbrev pub invariant-loop-handle : goal.invariant-loop-handle
invariant-loop-handle g l =
    (map g.W.Work.kept l.workers.items ++ map g.W.Work.kept (started (into_iter_items l.handle-iterator)) ≡ map g.W.Work.kept (started l.fn.handles.items))
    × (vec_len l.workers + length (into_iter_items l.handle-iterator) ≤ vec_capacity l.workers)
