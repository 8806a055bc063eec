use Rattle.std.proofs.Common.{◌≡◌, ◌++◌, map, length}
use Rattle.std.specs.Vec.Iter.{into_iter_items}
use Rattle.thread_rings.specs.Wired.{tags_of}
use Rattle.thread_staff.specs.Kept.{post_kept}
use Rattle.port_threads.specs.Kept.{kept_of}
use Rattle.port_threads.proofs.joining.joined.Given as goal

abbrev pub invariant-loop-post : goal.invariant-loop-post
invariant-loop-post l =
    (map (λ k. k.post) (map kept_of l.workers.items) ++ map post_kept (into_iter_items l.post-iterator) ≡ map post_kept l.fn.parts.posts.items)
    × (map (λ k. k.links) (map kept_of l.workers.items) ++ map tags_of (into_iter_items l.all_links) ≡ map tags_of l.fn.parts.links.items)
    × (map (λ k. k.credits) (map kept_of l.workers.items) ++ map tags_of (into_iter_items l.all_credits) ≡ map tags_of l.fn.parts.credits.items)
    × (map (λ k. k.pairs) (map kept_of l.workers.items) ++ map tags_of (into_iter_items l.all_pairs) ≡ map tags_of l.fn.parts.pairs.items)
    × (length (into_iter_items l.all_links) ≡ length (into_iter_items l.post-iterator))
    × (length (into_iter_items l.all_credits) ≡ length (into_iter_items l.post-iterator))
    × (length (into_iter_items l.all_pairs) ≡ length (into_iter_items l.post-iterator))
