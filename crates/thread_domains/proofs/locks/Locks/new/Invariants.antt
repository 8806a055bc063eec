use Rattle.std.proofs.Common.{◌≡◌, ◌+◌, ◌≤◌, ◌++◌, map, length}
use Rattle.std.specs.Prelude.{vec_len, vec_capacity}
use Rattle.std.specs.Vec.Iter.{into_iter_items}
use Rattle.thread_domains.proofs.locks.Locks.new.Given as goal

abbrev pub invariant-loop-domain : goal.invariant-loop-domain
invariant-loop-domain l =
    (l.numbers.items ++ map (λ d. d.share.domain) (into_iter_items l.domain-iterator) ≡ map (λ d. d.share.domain) l.fn.domains.items)
    × (vec_len l.numbers ≡ vec_len l.locked)
    × (vec_len l.numbers + length (into_iter_items l.domain-iterator) ≤ vec_capacity l.numbers)
    × (vec_len l.locked + length (into_iter_items l.domain-iterator) ≤ vec_capacity l.locked)
