use Rattle.std.proofs.Common.{◌∙◌, ◌++◌, ◌∷◌, List, [], Some, map, ap}
use Rattle.std.proofs.lemmas.List.{map-append}
use Rattle.thread_crew.specs.declared.worker_id.WorkerId.TheVariants as worker
use Rattle.monitor.specs.Reporting.{seat_of}
use Rattle.thread_workers.specs.PortWorks.{PortKept, PortWorkView}
use Rattle.thread_staff.specs.Kept.{PostKept, post_kept}
use Rattle.thread_staff.specs.Watched.{watch_kept}
use Rattle.thread_staff.specs.declared.job.Job.TheVariants as job
use Rattle.thread_staff.specs.declared.post.Post.{Post}
use Rattle.thread_staff.proofs.Seated.{watched_more}
use Rattle.thread_staff.proofs.staff.Staff.add_port.Goals as goal

pub invariant_of-self-2 : goal.invariant_of-self-2
invariant_of-self-2 c =
    let post : Post = record { id = worker.Port c.args.id; job = job.Port c.new-work.result } in
    let same = c.admit.ensures.same in
    let grown = c.push_reserved.ensures.items ∙ ap (λ (l : List Post). l ++ post ∷ []) c.in_ok-reserve.ensures.items in
    watched_more (watch_kept c.self.inside.watch) (watch_kept c.admit.new.self) (map post_kept c.self.inside.posts.items) (map post_kept c.push_reserved.new.self.items) (post_kept post) (seat_of c.in_ok-reporter.reporter)
    (ap (λ (l : List Post). map post_kept l) grown ∙ map-append post_kept c.self.inside.posts.items (post ∷ []))
    (ap (λ (k : PortKept). Some k.seat) c.new-work.ensures.kept)
    c.in_ok-reporter.ensures.ok.0 c.in_ok-reporter.ensures.ok.1 same.0 same.2 c.in_ok-reporter.ensures.seats c.self.invariant
