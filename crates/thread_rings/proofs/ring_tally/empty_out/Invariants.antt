use Rattle.std.proofs.Common.{◌≡◌, ◌+◌, ◌≤◌, ◌++◌, length}
use Rattle.std.specs.Prelude.{vec_len, vec_capacity}
use Rattle.rtrb.specs.Ring.{received, known_items}
use Rattle.thread_rings.proofs.ring_tally.empty_out.Given as goal

abbrev pub invariant-loop : goal.invariant-loop
invariant-loop g l =
    (l.left.items ++ known_items l.input ≡ known_items l.fn.input)
    × (received l.input ≡ received l.fn.input ++ l.left.items)
    × (l.counter + length (known_items l.input) ≡ l.count)
    × (vec_len l.left ≡ l.counter)
    × (l.count ≤ vec_capacity l.left)
