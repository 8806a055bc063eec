use Rattle.std.proofs.Common.{◌≡◌, ◌++◌, map}
use Rattle.std.specs.Vec.Iter.{into_iter_items}
use Rattle.thread_rings.specs.Wired.{tags_of}
use Rattle.thread_tests.proofs.relays.relays_of.Given as goal

abbrev pub invariant-loop-ends : goal.invariant-loop-ends
invariant-loop-ends l = map (λ r. tags_of r.ends) l.relays.items ++ map tags_of (into_iter_items l.ends-iterator) ≡ map tags_of l.fn.ends.items
