use Rattle.std.proofs.Common.{◌≡◌, ◌≤◌, map, take, length}
use Rattle.std.specs.Prelude.{vec_len, vec_capacity}
use Rattle.thread_rings.proofs.laid.lay.Given as goal

abbrev pub invariant-loop-wire : goal.invariant-loop-wire
invariant-loop-wire g l =
    (map (λ r. r.wire) l.rings.items ≡ take l.wire-index l.wires)
    × (vec_len l.rings ≡ l.wire-index)
    × (length l.wires ≤ vec_capacity l.rings)
