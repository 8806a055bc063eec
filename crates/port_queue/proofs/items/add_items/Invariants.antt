use Rattle.std.proofs.Common.{◌≡◌, ◌++◌, map}
use Rattle.std.specs.VecDeque.Iter.{deque_iter_rest}
use Rattle.port_queue.proofs.items.add_items.Given as goal

-- what was added, and then what is still to come
abbrev pub invariant-loop-entry : goal.invariant-loop-entry
invariant-loop-entry g l = map (λ item. item.now) l.items.items ++ map (λ entry. entry.item) (deque_iter_rest l.entry-iterator) ≡ map (λ item. item.now) l.initial.items.items ++ map (λ entry. entry.item) l.queue.items
