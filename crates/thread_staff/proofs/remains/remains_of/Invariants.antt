use Rattle.std.proofs.Common.{◌≡◌, ◌++◌, map}
use Rattle.std.specs.Vec.Iter.{into_iter_items}
use Rattle.monitor.specs.Reporting.{seat_of}
use Rattle.thread_staff.specs.Kept.{post_kept}
use Rattle.thread_staff.specs.Marks.{mark_left, mark_of, parts_in}
use Rattle.thread_staff.specs.Seats.{seats_of}
use Rattle.thread_staff.proofs.remains.remains_of.Given as goal

abbrev pub invariant-loop-post : goal.invariant-loop-post
invariant-loop-post l =
    (map (λ r. r.parts) l.remains.items ++ map (λ p. parts_in p.job) (into_iter_items l.post-iterator) ≡ map (λ p. parts_in p.job) l.fn.posts.items)
    × (map mark_left l.remains.items ++ map mark_of (map post_kept (into_iter_items l.post-iterator)) ≡ map mark_of (map post_kept l.fn.posts.items))
    × (map seat_of l.reporters.items ++ seats_of (map post_kept (into_iter_items l.post-iterator)) ≡ seats_of (map post_kept l.fn.posts.items))
