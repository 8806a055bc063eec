use Rattle.std.proofs.Common.{◌≡◌, ◌++◌, map}
use Rattle.std.specs.Vec.Iter.{into_iter_items}
use Rattle.thread_rings.specs.Wired.{tags_of}
use Rattle.thread_staff.specs.Kept.{post_kept}
use Rattle.port_threads.specs.Kept.{kept_of}
use Rattle.port_threads.proofs.joining.apart.Given as goal

abbrev pub invariant-loop-worker : goal.invariant-loop-worker
invariant-loop-worker l =
    (map post_kept l.all_posts.items ++ map (λ k. k.post) (map kept_of (into_iter_items l.worker-iterator)) ≡ map (λ k. k.post) (map kept_of l.fn.workers.items))
    × (map tags_of l.all_links.items ++ map (λ k. k.links) (map kept_of (into_iter_items l.worker-iterator)) ≡ map (λ k. k.links) (map kept_of l.fn.workers.items))
    × (map tags_of l.all_credits.items ++ map (λ k. k.credits) (map kept_of (into_iter_items l.worker-iterator)) ≡ map (λ k. k.credits) (map kept_of l.fn.workers.items))
    × (map tags_of l.all_pairs.items ++ map (λ k. k.pairs) (map kept_of (into_iter_items l.worker-iterator)) ≡ map (λ k. k.pairs) (map kept_of l.fn.workers.items))
