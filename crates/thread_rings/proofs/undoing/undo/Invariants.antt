use Rattle.std.proofs.Common.{◌≡◌, ◌-◌, ◌≤◌, map, take, drop, length}
use Rattle.std.specs.Prelude.{vec_len, vec_capacity, reverse}
use Rattle.thread_rings.specs.Moved.{flow_of}
use Rattle.thread_rings.specs.Returned.{row_of, all_tallied}
use Rattle.thread_rings.specs.Wired.{dealt, numbered, tags_of, table_of}
use Rattle.thread_rings.proofs.undoing.undo.Given as goal

abbrev pub invariant-loop-done : goal.invariant-loop-done
invariant-loop-done g l =
    (map tags_of l.workers.items ≡ dealt (vec_len l.fn.workers) (take (length l.wires - l.done) (table_of l.made.value.items)))
    × (vec_len l.workers ≡ vec_len l.fn.workers)
    × (vec_len l.rings ≡ l.done)
    × (length l.wires ≤ vec_capacity l.rings)
    × (map row_of l.rings.items ≡ reverse (drop (length l.wires - l.done) (numbered (table_of l.made.value.items))))
    × (map flow_of l.fn.workers.items ≡ all_tallied (map flow_of l.workers.items) (reverse l.rings.items))
