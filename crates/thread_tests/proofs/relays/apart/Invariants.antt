use Rattle.std.proofs.Common.{◌≡◌, ◌++◌, map}
use Rattle.std.specs.Vec.Iter.{into_iter_items}
use Rattle.thread_rings.specs.Wired.{tags_of}
use Rattle.thread_tests.proofs.relays.apart.Given as goal

abbrev pub invariant-loop-relay : goal.invariant-loop-relay
invariant-loop-relay l = map tags_of l.all_ends.items ++ map (λ r. tags_of r.ends) (into_iter_items l.relay-iterator) ≡ map (λ r. tags_of r.ends) l.fn.relays.items
