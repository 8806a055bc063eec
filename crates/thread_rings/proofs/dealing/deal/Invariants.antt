use Rattle.std.proofs.Common.{◌≡◌, ◌+◌, map, length}
use Rattle.std.specs.Prelude.{vec_len}
use Rattle.std.specs.Vec.Iter.{into_iter_items}
use Rattle.thread_rings.specs.Wired.{AreWithin, dealt, dealt_from, tags_of, table_of}
use Rattle.thread_rings.proofs.dealing.deal.Given as goal

abbrev pub invariant-loop-laid : goal.invariant-loop-laid
invariant-loop-laid g l =
    (dealt_from l.number (map tags_of l.workers.items) (table_of (into_iter_items l.laid-iterator)) ≡ dealt l.fn.count (table_of l.fn.rings.items))
    × (vec_len l.workers ≡ l.fn.count)
    × AreWithin l.fn.count (map (λ r. r.wire) (into_iter_items l.laid-iterator))
    × (l.number + length (into_iter_items l.laid-iterator) ≡ vec_len l.fn.rings)
